-- Who is removed in a step, and what removals leave of the world. Assumes nothing.
use Prim.Native.Nat.{ℕ, zero, suc, ◌+◌, ◌≤◌, ◌<◌}
use native.Mathlib.Omega.{arith}
use native.Mathlib.Nat.{eq-or-lt_of_le}
use mathlib.Core.Bool.{Bool, true, false, cond, ◌||◌, true≢false}
use mathlib.Core.List.{List, [], ◌∷◌, map}
use mathlib.Core.Logic.{⊎_elim}
use mathlib.Core.Path.{◌≡◌, refl, sym, ap, ◌∙◌, subst}
use lib.Dec.{eqb, ltb}
use lib.IntN.{pos, nat_abs}
use lib.ListN.{length, length-map}
use lib.Seq.{take_at}
use borrow.Author.Tests.{eq-eqb, ne_eqb, eqb-true, eqb-false, ltb-true, ltb-false}
use Rattle.map_tiles.specs.declared.tiles.Sides.{Sides}
use Rattle.character.specs.Slot.{empty_slot}
use Rattle.character.specs.Tick.{slot_at}
use Rattle.character.specs.declared.Slot.{Slot}
use Rattle.world.specs.Calls.{released_slot, vacate}
use Rattle.world.specs.Removal.{ids_of, dies, dying, remove_all, listed, ids_in, is_in}
use Rattle.world.specs.declared.World.{World}
use Rattle.world.proofs.Seats.{by_test}
use Rattle.world.proofs.Vacated.{vacated_at, vacated_others, vacated_length, vacated_every}

-- ---- who is in the list
module _ (f : ℕ → Bool) where
  ids_not : (n i k : ℕ) → ((j : ℕ) → i ≤ j → j < i + n → j ≡ k → ⊥) → is_in k (ids_of f n i) ≡ false
  ids_not zero i k h = refl
  ids_not (suc n) i k h =
      let rest = ids_not n (suc i) k (λ j a b. h j (omega arith) (omega arith)) in
      by_test (λ (l : List ℕ). is_in k l ≡ false) (f i) (λ e. rw (ne_eqb i k (h i (omega arith) (omega arith))) rest) (λ e. rest)

  ids_are : (n i k : ℕ) → i ≤ k → k < i + n → is_in k (ids_of f n i) ≡ f k
  ids_are zero i k a b = absurd (omega arith)
  ids_are (suc n) i k a b =
      ⊎_elim
      (λ q. by_test (λ (l : List ℕ). is_in k l ≡ f k) (f i) (λ e. rw (eq-eqb i k q) (sym (ap f (sym q) ∙ e))) (λ e. ids_not n (suc i) k (λ j c d z. omega arith) ∙ sym (ap f (sym q) ∙ e)))
      (λ l. let rest = ids_are n (suc i) k (omega arith) (omega arith) in by_test (λ (l : List ℕ). is_in k l ≡ f k) (f i) (λ e. rw (ne_eqb i k (λ z. omega arith)) rest) (λ e. rest))
      (eq-or-lt_of_le a)

module _ (n : ℕ) (s : Sides) (ts : List ℕ) (ss : List Slot) where
  pub dying_are : (k : ℕ) → k < n → is_in k (dying n s ts ss) ≡ dies s ts (slot_at ss k)
  unfolding dying
  dying_are k l = ids_are (λ j. dies s ts (slot_at ss j)) n 0 k (omega arith) (omega arith)

  pub dying_within : (k : ℕ) → is_in k (dying n s ts ss) ≡ true → k < n
  unfolding dying
  dying_within k e = go (ltb k n) refl
    where
      go : (b : Bool) → ltb k n ≡ b → k < n
      go true q = ltb-true k n q
      go false q = let h : n ≤ k = ltb-false k n q in absurd (true≢false (sym e ∙ ids_not _ n 0 k (λ j a b z. omega arith)))

-- the array tells the list
pub listed_ids : (n : ℕ) (ids : List ℕ) → ids_in (listed n ids) ≡ ids
listed_ids n ids = ap (map nat_abs) (take_at (map pos ids) _ (length ids) (length-map ids pos)) ∙ back ids
  where
    back : (l : List ℕ) → map nat_abs (map pos l) ≡ l
    back [] = refl
    back (k ∷ l) = ap (λ (m : List ℕ). k ∷ m) (back l)

-- ---- what removals leave
-- what a leave keeps, they keep
pub removed_kept : (P : World → Type 0) → ((w : World) (k : ℕ) → P w → P (vacate w k)) → (ids : List ℕ) (w : World) → P w → P (remove_all w ids)
removed_kept P f [] w h = h
removed_kept P f (k ∷ ids) w h = removed_kept P f ids (vacate w k) (f w k h)

-- of each slot, by what an empty one has and a released one keeps
pub removed_every : (P : ℕ → Slot → Type 0) → ((j : ℕ) → P j empty_slot) → ((j k : ℕ) (x : Slot) → P j x → P j (released_slot x k)) → (ids : List ℕ) (w : World) → ((j : ℕ) → P j (slot_at w.slots j)) → (j : ℕ) → P j (slot_at (remove_all w ids).slots j)
removed_every P e f = removed_kept (λ w. (j : ℕ) → P j (slot_at w.slots j)) (λ w k h. vacated_every w k P (e k) (λ j. f j k (slot_at w.slots j) (h j)))

-- who is in the list is there no more, whoever else was is
pub removed_present : (k : ℕ) (ids : List ℕ) (w : World) → (is_in k ids ≡ true → k < length w.slots) → (slot_at (remove_all w ids).slots k).present ≡ cond (is_in k ids) false (slot_at w.slots k).present
removed_present k [] w l = refl
removed_present k (i ∷ ids) w l = removed_present k ids (vacate w i) (λ e. subst (λ (n : ℕ). k < n) (sym (vacated_length w i)) (l (either_in (eqb i k) e))) ∙ go (eqb i k) refl
  where
    either_in : (b : Bool) → is_in k ids ≡ true → (b || is_in k ids) ≡ true
    either_in true e = refl
    either_in false e = e

    gone : (b : Bool) → cond b false false ≡ false
    gone true = refl
    gone false = refl

    go : (b : Bool) → eqb i k ≡ b → cond (is_in k ids) false (slot_at (vacate w i).slots k).present ≡ cond (b || is_in k ids) false (slot_at w.slots k).present
    go true e =
        let q : i ≡ k = eqb-true i k e in
        ap (λ (x : Slot). cond (is_in k ids) false x.present) (ap (λ (m : ℕ). slot_at (vacate w i).slots m) (sym q) ∙ vacated_at w i (subst (λ (m : ℕ). m < length w.slots) (sym q) (l (rw e)))) ∙ gone (is_in k ids)
    go false e = ap (λ (x : Slot). cond (is_in k ids) false x.present) (vacated_others w i k (λ q. eqb-false i k e (sym q)))
