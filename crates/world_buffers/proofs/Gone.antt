-- What removals leave of a slot, and that the floor mark of who is not removed decides it. Assumes nothing.
use Prim.Native.Nat.{ℕ, ◌<◌}
use mathlib.Core.Bool.{Bool, true, false, cond, ◌||◌}
use mathlib.Core.List.{List, [], ◌∷◌}
use mathlib.Core.Path.{◌≡◌, refl, sym, ap, ◌∙◌, subst}
use lib.Dec.{eqb}
use lib.ListN.{length}
use borrow.Author.Tests.{eqb-true, eqb-false}
use Rattle.character.specs.Slot.{empty_slot, with_grounded}
use Rattle.character.specs.Tick.{slot_at}
use Rattle.character.specs.declared.Slot.{Slot}
use Rattle.world.specs.Calls.{released_slot, vacate}
use Rattle.world.specs.Removal.{remove_all, is_in}
use Rattle.world.specs.declared.World.{World}
use Rattle.world.proofs.Vacated.{vacated_at, vacated_others, vacated_length}

-- what removals leave of the slot x at the seat k
abbrev pub gone_slot : ℕ → List ℕ → Slot → Slot
gone_slot k [] x = x
gone_slot k (i ∷ is) x = gone_slot k is (cond (eqb i k) empty_slot (released_slot x i))

pub gone_at : (k : ℕ) (ids : List ℕ) (w : World) → k < length w.slots → slot_at (remove_all w ids).slots k ≡ gone_slot k ids (slot_at w.slots k)
gone_at k [] w l = refl
gone_at k (i ∷ is) w l = gone_at k is (vacate w i) (subst (λ (n : ℕ). k < n) (sym (vacated_length w i)) l) ∙ ap (gone_slot k is) (go (eqb i k) refl)
  where
    go : (b : Bool) → eqb i k ≡ b → slot_at (vacate w i).slots k ≡ cond b empty_slot (released_slot (slot_at w.slots k) i)
    go true e = let q = eqb-true i k e in ap (slot_at (vacate w i).slots) (sym q) ∙ vacated_at w i (subst (λ (n : ℕ). n < length w.slots) (sym q) l)
    go false e = vacated_others w i k (λ q. eqb-false i k e (sym q))

pub gone_tunings : (ids : List ℕ) (w : World) → (remove_all w ids).tunings ≡ w.tunings
gone_tunings [] w = refl
gone_tunings (i ∷ is) w = gone_tunings is (vacate w i)

pub gone_length : (ids : List ℕ) (w : World) → length (remove_all w ids).slots ≡ length w.slots
gone_length [] w = refl
gone_length (i ∷ is) w = gone_length is (vacate w i) ∙ vacated_length w i

-- with the mark that is left of it a slot is left as it was
pub gone_marked : (k : ℕ) (ids : List ℕ) (x : Slot) → gone_slot k ids (with_grounded x (gone_slot k ids x).grounded) ≡ gone_slot k ids x
gone_marked k [] x = refl
gone_marked k (i ∷ is) x = go (eqb i k) (gone_marked k is (released_slot x i))
  where
    go : (b : Bool) → gone_slot k is (with_grounded (released_slot x i) (gone_slot k is (released_slot x i)).grounded) ≡ gone_slot k is (released_slot x i) → gone_slot k is (cond b empty_slot (released_slot (with_grounded x (gone_slot k is (cond b empty_slot (released_slot x i))).grounded) i)) ≡ gone_slot k is (cond b empty_slot (released_slot x i))
    go true h = refl
    go false h = h

-- whoever is removed has no floor mark any more
pub gone_grounded : (k : ℕ) (ids : List ℕ) (x : Slot) → (gone_slot k ids x).grounded ≡ cond (is_in k ids) false x.grounded
gone_grounded k [] x = refl
gone_grounded k (i ∷ is) x = gone_grounded k is (cond (eqb i k) empty_slot (released_slot x i)) ∙ go (eqb i k) (is_in k is)
  where
    go : (b c : Bool) → cond c false (cond b empty_slot (released_slot x i)).grounded ≡ cond (b || c) false x.grounded
    go true true = refl
    go true false = refl
    go false c = refl
