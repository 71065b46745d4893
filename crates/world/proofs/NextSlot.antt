-- What a call but step leaves of one slot. Assumes nothing.
use Prim.Native.Nat.{ℕ, suc, ◌<◌}
use native.Mathlib.Omega.{arith}
use mathlib.Core.Bool.{Bool, true, false, cond, ◌&&◌}
use mathlib.Core.List.{List}
use mathlib.Core.Path.{◌≡◌, refl, sym, ap, ◌∙◌}
use lib.Dec.{eqb}
use lib.IntN.{ℤ}
use lib.ListN.{length}
use borrow.Author.Tests.{eq-eqb, ne_eqb, eqb-true, eqb-false}
use Rattle.map_tiles.specs.declared.tiles.Sides.{Sides}
use Rattle.game_records.specs.declared.PlayerInput.{PlayerInput}
use Rattle.character.specs.Slot.{empty_slot, joined_slot, with_input}
use Rattle.character.specs.Tick.{slot_at, nowhere}
use Rattle.character.specs.declared.Slot.{Slot}
use Rattle.character_laws.proofs.Slots.{set_others}
use Rattle.world.specs.World.{with_slot}
use Rattle.world.specs.Calls.{place_of, point_of, join, released_slot, vacate, leave, input, tune}
use Rattle.world.specs.Answered.{Answer}
use Rattle.world.specs.declared.World.{World}
use Rattle.world.proofs.Outcomes.{Outcome, no, yes, outcome_kept, Seated, join_outcome, leave_outcome, input_outcome, tune_outcome}
use Rattle.world.proofs.Vacated.{vacated_at, vacated_others}

module _ {A : Type 0} (x y : A) where
  with_true : (b : Bool) → cond b x y ≡ cond (b && true) x y
  with_true true = refl
  with_true false = refl

  with_false : (b : Bool) → y ≡ cond (b && false) x y
  with_false true = refl
  with_false false = refl

module _ (n : ℕ) (w : World) (full : length w.slots ≡ n) (j : ℕ) (x : Slot) (k : ℕ) where
  set_slot : j < n → slot_at (with_slot w j x).slots k ≡ cond (eqb j k) x (slot_at w.slots k)
  set_slot l = set_others (λ i y. y ≡ cond (eqb j i) x (slot_at w.slots i)) w.slots j x nowhere (omega (arith, full)) (λ i d. rw (ne_eqb j i (λ e. d (sym e)))) (rw (eq-eqb j j refl)) k

  -- an accepted call sets it, a refused one leaves it
  slot_set : {F : Type 0} (a : Answer) → Outcome w (with_slot w j x) F a → (F → j < n) → slot_at a.world.slots k ≡ cond (eqb j k && eqb a.number 0) x (slot_at w.slots k)
  slot_set a (no r e) f = rw (e, ne_eqb (suc r) 0 (λ q. omega arith)) (with_false x (slot_at w.slots k) (eqb j k))
  slot_set a (yes q e) f = rw e (set_slot (f q) ∙ with_true x (slot_at w.slots k) (eqb j k))

module _ (n : ℕ) (s : Sides) (ts : List ℕ) (w : World) (full : length w.slots ≡ n) (k : ℕ) where
  abbrev old : Slot
  old = slot_at w.slots k

  pub join_slot : (id x y : ℤ) → let a = join n w s ts id x y in slot_at a.world.slots k ≡ cond (eqb (place_of n id) k && eqb a.number 0) (joined_slot (point_of x y)) old
  join_slot id x y = slot_set n w full (place_of n id) (joined_slot (point_of x y)) k (join n w s ts id x y) (join_outcome n w s ts id x y) (λ f. f.seat)

  -- what an accepted leave of j leaves of it
  abbrev pub vacated_slot : ℕ → Slot
  vacated_slot j = cond (eqb j k) empty_slot (released_slot old j)

  vacated : (j : ℕ) → j < n → slot_at (vacate w j).slots k ≡ vacated_slot j
  vacated j l = go (eqb j k) refl
    where
      go : (b : Bool) → eqb j k ≡ b → slot_at (vacate w j).slots k ≡ cond b empty_slot (released_slot old j)
      go true e = ap (λ (m : ℕ). slot_at (vacate w j).slots m) (sym (eqb-true j k e)) ∙ vacated_at w j (omega (arith, full))
      go false e = vacated_others w j k (λ q. eqb-false j k e (sym q))

  pub leave_slot : (id : ℤ) → let a = leave n w id in slot_at a.world.slots k ≡ cond (eqb a.number 0) (vacated_slot (place_of n id)) old
  leave_slot id = go (leave n w id) (leave_outcome n w id)
    where
      go : (a : Answer) → Outcome w (vacate w (place_of n id)) (Seated n w id) a → slot_at a.world.slots k ≡ cond (eqb a.number 0) (vacated_slot (place_of n id)) old
      go a (no r e) = rw (e, ne_eqb (suc r) 0 (λ q. omega arith))
      go a (yes f e) = rw e (vacated (place_of n id) f.seat)

  own_input : (j : ℕ) (i : PlayerInput) (b c : Bool) → eqb j k ≡ b → cond (b && c) (with_input (slot_at w.slots j) i) old ≡ cond (b && c) (with_input old i) old
  own_input j i false c e = refl
  own_input j i true c e = ap (λ (m : ℕ). cond c (with_input (slot_at w.slots m) i) old) (eqb-true j k e)

  pub input_slot : (id : ℤ) (i : PlayerInput) → let a = input n w id i in slot_at a.world.slots k ≡ cond (eqb (place_of n id) k && eqb a.number 0) (with_input old i) old
  input_slot id i =
      let j = place_of n id in
      slot_set n w full j (with_input (slot_at w.slots j) i) k (input n w id i) (input_outcome n w id i) (λ f. f.seat) ∙ own_input j i (eqb j k) (eqb (input n w id i).number 0) refl

  pub tune_slot : (index z : ℤ) → slot_at (tune w index z).world.slots k ≡ old
  tune_slot index z = outcome_kept (λ u. slot_at u.slots k ≡ old) w _ _ (tune_outcome w index z) refl (λ f. refl)
