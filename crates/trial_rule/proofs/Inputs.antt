-- Which way a player goes, and that before each step everybody present has stored its own input. Assumes nothing.
use Prim.Native.Nat.{ℕ, zero, suc, ◌+◌, ◌≤◌, ◌<◌}
use native.Mathlib.Omega.{arith}
use mathlib.Core.Bool.{Bool, true, false, cond, true≢false}
use mathlib.Core.List.{List, ◌∷◌, map}
use mathlib.Core.Logic.{◌↔◌, ⊎_elim}
use mathlib.Core.Path.{◌≡◌, refl, sym, ap, ◌∙◌, subst}
use lib.Dec.{ltb}
use lib.IntN.{ℤ, pos, negsuc}
use lib.ListN.{length}
use borrow.Author.Tests.{lt-ltb, ltb-true, ltb-false}
use Rattle.character_laws.proofs.Slots.{set_others}
use Rattle.map_tiles.specs.declared.tiles.Sides.{Sides}
use Rattle.character.specs.Slot.{with_input}
use Rattle.character.specs.Tick.{slot_at, nowhere}
use Rattle.character.specs.declared.Slot.{Slot}
use Rattle.world.specs.World.{with_slot}
use Rattle.world.specs.Calls.{place_of, input}
use Rattle.world.specs.Removal.{ids_of}
use Rattle.world.specs.Run.{ran, after}
use Rattle.world.specs.declared.World.{World}
use Rattle.world.proofs.Seats.{last_or_below, present_within}
use Rattle.trial_rule.specs.Trial.{Trying, towards, input_for, inputs_for, step_from}
use Rattle.trial_rule.specs.Laws.{GoesTowards, stored_by, StepStored, InputsStored}

-- ---- which way

pub goes_towards : GoesTowards
unfolding towards
goes_towards own target = let r = go (ltb target own) (ltb own target) refl refl (towards own target) refl in record { left = r.0; right = r.1; equal = r.2 }
  where
    go : (a b : Bool) → ltb target own ≡ a → ltb own target ≡ b → (z : ℤ) → z ≡ cond a (negsuc 0) (cond b (pos 1) (pos 0)) → ((z ≡ negsuc 0) ↔ (target < own)) × ((z ≡ pos 1) ↔ (own < target)) × ((z ≡ pos 0) ↔ (target ≡ own))
    go true b p q z e = let l = ltb-true target own p in ((λ f. l, λ m. e), (λ f. absurd (let y : ◌≡◌ {A = ℕ} 0 1 = cc in omega arith), λ m. absurd (omega arith)), (λ f. absurd (let y : ◌≡◌ {A = ℕ} 0 1 = cc in omega arith), λ m. absurd (omega arith)))
    go false true p q z e = let l = ltb-true own target q in ((λ f. absurd (let y : ◌≡◌ {A = ℕ} 0 1 = cc in omega arith), λ m. absurd (omega arith)), (λ f. l, λ m. e), (λ f. absurd (let y : ◌≡◌ {A = ℕ} 0 1 = cc in omega arith), λ m. absurd (omega arith)))
    go false false p q z e = let l = ltb-false target own p in let m = ltb-false own target q in ((λ f. absurd (let y : ◌≡◌ {A = ℕ} 0 1 = cc in omega arith), λ u. absurd (omega arith)), (λ f. absurd (let y : ◌≡◌ {A = ℕ} 0 1 = cc in omega arith), λ u. absurd (omega arith)), (λ f. omega arith, λ u. e))

-- ---- the inputs before a step
module _ (n : ℕ) (s : Sides) (ts : List ℕ) (t : Trying) where
  abbrev old : ℕ → Slot
  old j = slot_at t.world.slots j

  abbrev there : ℕ → Bool
  there j = (old j).present

  -- with its own input
  abbrev with : ℕ → Slot
  with j = with_input (old j) (stored_by (input_for s t j))

  -- after the calls for the seats below i
  record Upto (i : ℕ) (w : World) : Type 0 where
    stored : (j : ℕ) → j < i → there j ≡ true → slot_at w.slots j ≡ with j
    absent : (j : ℕ) → there j ≡ false → slot_at w.slots j ≡ old j
    later : (j : ℕ) → i ≤ j → slot_at w.slots j ≡ old j
    tunings : w.tunings ≡ t.world.tunings

  stores : (i : ℕ) (w : World) → i < n → slot_at w.slots i ≡ old i → there i ≡ true → (ran n s ts w (input_for s t i)).world ≡ with_slot w i (with i)
  unfolding input place_of
  stores i w l e p = rw (lt-ltb i n l) (rw (lt-ltb i n l, e, p) refl)

  -- one seat more
  own : (i : ℕ) (w : World) → i < n → Upto i w → there i ≡ true → Upto (suc i) (with_slot w i (with i))
  own i w l h p =
      let k : i < length w.slots = present_within w.slots i (ap (λ (x : Slot). x.present) (h.later i (omega arith)) ∙ p) in
      record {
        stored = set_others (λ j x. j < suc i → there j ≡ true → x ≡ with j) w.slots i (with i) nowhere k (λ j d m. h.stored j (omega arith)) (λ m q. refl);
        absent = set_others (λ j x. there j ≡ false → x ≡ old j) w.slots i (with i) nowhere k (λ j d. h.absent j) (λ q. absurd (true≢false (sym p ∙ q)));
        later = set_others (λ j x. suc i ≤ j → x ≡ old j) w.slots i (with i) nowhere k (λ j d m. h.later j (omega arith)) (λ m. absurd (omega arith));
        tunings = h.tunings;
      }

  none : (i : ℕ) (w : World) → Upto i w → there i ≡ false → Upto (suc i) w
  none i w h p = record {
    stored = λ j m q. ⊎_elim (λ e. absurd (true≢false (sym q ∙ ap there e ∙ p))) (λ r. h.stored j r q) (last_or_below j i m);
    absent = h.absent;
    later = λ j m. h.later j (omega arith);
    tunings = h.tunings;
  }

  all : (m i : ℕ) (w : World) → m + i ≤ n → Upto i w → Upto (m + i) (after n s ts w (map (input_for s t) (ids_of there m i)))
  all zero i w l h = subst (λ (j : ℕ). Upto j w) (omega arith) h
  all (suc m) i w l h = subst (λ (j : ℕ). Upto j (after n s ts w (map (input_for s t) (ids_of there (suc m) i)))) (omega arith) (go (λ v. all m (suc i) v (omega arith)) (there i) refl)
    where
      go : ((v : World) → Upto (suc i) v → Upto (m + suc i) (after n s ts v (map (input_for s t) (ids_of there m (suc i))))) → (b : Bool) → there i ≡ b → Upto (m + suc i) (after n s ts w (map (input_for s t) (cond b (i ∷ ids_of there m (suc i)) (ids_of there m (suc i)))))
      go rest true p = rest (ran n s ts w (input_for s t i)).world (subst (Upto (suc i)) (sym (stores i w (omega arith) (h.later i (omega arith)) p)) (own i w (omega arith) h p))
      go rest false p = rest w (none i w h p)

  step_stored : StepStored n s ts t
  unfolding step_from inputs_for
  step_stored =
      let h = all n 0 t.world (omega arith) (record { stored = λ j m. absurd (omega arith); absent = λ j q. refl; later = λ j m. refl; tunings = refl }) in
      record { world = after n s ts t.world (inputs_for n s t); called = refl; stored = λ j l. h.stored j (omega arith); absent = λ j l. h.absent j; tunings = h.tunings }

pub inputs_stored : (n : ℕ) → InputsStored n
inputs_stored n s ts t = step_stored n s ts t
