-- An accepted leave is what specs/Leave.antt says, in every world. Assumes nothing.
use Prim.Native.Nat.{ℕ, suc, ◌<◌}
use native.Mathlib.Omega.{arith}
use mathlib.Core.Bool.{Bool, true, false, true≢false}
use mathlib.Core.Path.{◌≡◌, refl, sym, ap, ◌∙◌}
use lib.ListN.{length}
use borrow.Author.Tests.{eq-eqb, eqb-true}
use Rattle.character_hook.specs.Hook.{holds}
use Rattle.character_hook.specs.declared.hook.Hook.{Hook}
use Rattle.character_hook.specs.declared.hook.Hook.TheVariants.{Retracted, Idle, Flying, Grabbed, Attached, Retracting0, Retracting1, Retracting2}
use Rattle.character.specs.Character.{with_hook}
use Rattle.character.specs.Slot.{with_character}
use Rattle.character.specs.Tick.{slot_at}
use Rattle.character.specs.declared.Slot.{Slot}
use Rattle.world.specs.Calls.{place_of, released, vacate, leave}
use Rattle.world.specs.Leave.{Holds, Vacated, LeaveReleases}
use Rattle.world.specs.Answered.{Answer}
use Rattle.world.specs.declared.World.{World}
use Rattle.world.proofs.Outcomes.{Outcome, no, yes, Seated, leave_outcome}
use Rattle.world.proofs.Vacated.{held-released, other_released, vacated_at, vacated_others, vacated_length}

-- ---- one hook
held_retracted : (h : Hook) (k : ℕ) → Holds h k → released h k ≡ Retracted
unfolding holds
held_retracted h k e = held-released h k (rw (e.grabbed, eq-eqb e.who.0 k e.is))

holds_true : (h : Hook) (k : ℕ) → holds h k ≡ true → Holds h k
unfolding holds
holds_true (Grabbed c t) k e = record { who = c; ticks = t; grabbed = refl; is = eqb-true c.0 k e }
holds_true Retracted k e = absurd (true≢false (sym e))
holds_true Idle k e = absurd (true≢false (sym e))
holds_true (Flying p d) k e = absurd (true≢false (sym e))
holds_true (Attached p) k e = absurd (true≢false (sym e))
holds_true (Retracting0 p) k e = absurd (true≢false (sym e))
holds_true (Retracting1 p) k e = absurd (true≢false (sym e))
holds_true (Retracting2 p) k e = absurd (true≢false (sym e))

other_stays : (h : Hook) (k : ℕ) → (Holds h k → ⊥) → released h k ≡ h
other_stays h k f = go (holds h k) refl
  where
    go : (b : Bool) → holds h k ≡ b → released h k ≡ h
    go true e = absurd (f (holds_true h k e))
    go false e = other_released h k e

-- ---- the world
abbrev with_held : Slot → Hook → Slot
with_held x h = with_character x (with_hook x.character h)

vacated_is : (k : ℕ) (w : World) → k < length w.slots → Vacated k w (vacate w k)
vacated_is k w l = record {
  own = vacated_at w k l;
  holders = λ j d e. vacated_others w k j d ∙ ap (with_held (slot_at w.slots j)) (held_retracted (slot_at w.slots j).character.hook k e);
  others = λ j d f. vacated_others w k j d ∙ ap (with_held (slot_at w.slots j)) (other_stays (slot_at w.slots j).character.hook k f);
  tunings = refl;
  size = vacated_length w k;
}

pub leave_releases : (n : ℕ) → LeaveReleases n
leave_releases n w id full = go (leave n w id) (leave_outcome n w id)
  where
    go : (a : Answer) → Outcome w (vacate w (place_of n id)) (Seated n w id) a → a.number ≡ 0 → Vacated (place_of n id) w a.world
    go a (no r e) q = let z : suc r ≡ 0 = sym (ap (λ (b : Answer). b.number) e) ∙ q in absurd (omega arith)
    go a (yes f e) q = rw e (vacated_is (place_of n id) w (let l = f.seat in omega (arith, full, l)))
