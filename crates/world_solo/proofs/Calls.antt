-- What a call leaves of one slot and of the tunings: one for another id leaves both, any other makes of them what comes of these two alone. Assumes nothing.
use Prim.Native.Nat.{ℕ, ◌<◌}
use mathlib.Core.Bool.{Bool, true, false, cond, not, ◌&&◌, true≢false}
use mathlib.Core.List.{List, [], ◌∷◌}
use mathlib.Core.Path.{◌≡◌, refl, sym, ap, ap₂, ◌∙◌, subst}
use lib.Dec.{eqb, ltb}
use lib.IntN.{ℤ}
use lib.ListN.{length, set, replicate, length-set, length-replicate}
use lib.Seq.{get_or-set_same}
use borrow.Author.Tests.{eqb-true}
use Rattle.map_tiles.specs.declared.tiles.Sides.{Sides}
use Rattle.game_records.specs.declared.PlayerInput.{PlayerInput}
use Rattle.game_refusals.specs.Refusals.{bad_tuning, bad_hold}
use Rattle.game_tuning.specs.Tuning.{tuning_count, may_tune}
use Rattle.character.specs.Slot.{empty_slot, joined_slot, with_input}
use Rattle.character.specs.Tick.{slot_at, nowhere}
use Rattle.character.specs.declared.Slot.{Slot}
use Rattle.world.specs.declared.call.Call.{Call}
use Rattle.world.specs.declared.call.Call.TheVariants.{Join, Leave, Input, Step, Tune}
use Rattle.world.specs.Calls.{refused, accepted, place_of, point_of, join, released_slot, leave, input, tune}
use Rattle.world.specs.World.{with_tuning}
use Rattle.world.specs.Run.{input_of, ran}
use Rattle.world.specs.Settled.{Settled}
use Rattle.world.specs.Answered.{Answer, Stepped}
use Rattle.world.specs.declared.World.{World}
use Rattle.world.proofs.NextSlot.{join_slot, leave_slot, input_slot, tune_slot}
use Rattle.world.proofs.Outcomes.{outcome_kept, join_outcome, leave_outcome, input_outcome, join_number, leave_number, input_number}
use Rattle.world.proofs.Seats.{by_test}
use Rattle.world_solo.specs.Solo.{for_other, SoloStep, Seen, seen_by}
use Rattle.world_solo.proofs.Free.{Free, empty_free, joined_free, free_released}
use Rattle.world_solo.proofs.Step.{stepped_seat, stepped_free, step_seat, step_tunings}

-- what a call shows of a seat, and the slot and the tunings after it
pub record Left : Type 0 where
  pub shown : List Seen
  pub slot : Slot
  pub tunings : List ℤ

abbrev pub left_by : ℕ → Stepped → Call → Left
left_by k a c = record { shown = seen_by k a c; slot = slot_at a.world.slots k; tunings = a.world.tunings }

-- a tune makes of the tunings what comes of them
tune_tunings : (w v : World) (index z : ℤ) → w.tunings ≡ v.tunings → (tune w index z).world.tunings ≡ (tune v index z).world.tunings
unfolding tune
tune_tunings w v index z e = let k = place_of tuning_count index in go k (ltb k tuning_count) (may_tune k z)
  where
    go : (k : ℕ) (b c : Bool) → (cond b (cond c (accepted (with_tuning w k z)) (refused w bad_hold)) (refused w bad_tuning)).world.tunings ≡ (cond b (cond c (accepted (with_tuning v k z)) (refused v bad_hold)) (refused v bad_tuning)).world.tunings
    go k true true = ap (λ (l : List ℤ). set l k z) e
    go k true false = e
    go k false c = e

module _ (n : ℕ) (s : Sides) (ts : List ℕ) where
  -- ---- the tunings after a call that names an id
  module _ (w : World) where
    join-tunings : (id x y : ℤ) → (join n w s ts id x y).world.tunings ≡ w.tunings
    join-tunings id x y = outcome_kept (λ v. v.tunings ≡ w.tunings) w _ _ (join_outcome n w s ts id x y) refl (λ f. refl)

    leave-tunings : (id : ℤ) → (leave n w id).world.tunings ≡ w.tunings
    leave-tunings id = outcome_kept (λ v. v.tunings ≡ w.tunings) w _ _ (leave_outcome n w id) refl (λ f. refl)

    input-tunings : (id : ℤ) (i : PlayerInput) → (input n w id i).world.tunings ≡ w.tunings
    input-tunings id i = outcome_kept (λ v. v.tunings ≡ w.tunings) w _ _ (input_outcome n w id i) refl (λ f. refl)

  module _ (k : ℕ) (l : k < n) where
    -- ---- a call for another id
    set_other : (b c : Bool) (x y : Slot) → not b ≡ true → cond (b && c) x y ≡ y
    set_other true c x y e = absurd (true≢false (sym e))
    set_other false c x y e = refl

    left_other : (b c : Bool) (x : Slot) (j : ℕ) → not b ≡ true → Free x → cond c (cond b empty_slot (released_slot x j)) x ≡ x
    left_other true c x j e f = absurd (true≢false (sym e))
    left_other false true x j e f = free_released x j f
    left_other false false x j e f = refl

    -- it shows nothing, and leaves the slot and the tunings
    pub other-call : (w : World) (c : Call) → Settled n w → Free (slot_at w.slots k) → for_other n k c ≡ true → left_by k (ran n s ts w c) c ≡ record { shown = []; slot = slot_at w.slots k; tunings = w.tunings }
    other-call w (Join id x y) g f e = λ i. record { shown = []; slot = (join_slot n s ts w g.seats k id x y ∙ set_other (eqb (place_of n id) k) _ _ _ e) i; tunings = join-tunings w id x y i }
    other-call w (Leave id) g f e = λ i. record { shown = []; slot = (leave_slot n s ts w g.seats k id ∙ left_other (eqb (place_of n id) k) (eqb (leave n w id).number 0) (slot_at w.slots k) (place_of n id) e f) i; tunings = leave-tunings w id i }
    other-call w (Input id d x y j h) g f e = let p = input_of d x y j h in λ i. record { shown = []; slot = (input_slot n s ts w g.seats k id p ∙ set_other (eqb (place_of n id) k) _ _ _ e) i; tunings = input-tunings w id p i }
    other-call w (Tune index z) g f e = absurd (true≢false (sym e))
    other-call w Step g f e = absurd (true≢false (sym e))

    -- ---- any other call, as if nobody else were there
    -- a world of the slot x, with the tunings t
    abbrev only : Slot → List ℤ → World
    only x t = record { slots = set (replicate n empty_slot) k x; tunings = t }

    only-full : (x : Slot) (t : List ℤ) → length (only x t).slots ≡ n
    only-full x t = length-set (replicate n empty_slot) k x ∙ length-replicate n empty_slot

    only_at : (x : Slot) (t : List ℤ) → slot_at (only x t).slots k ≡ x
    only_at x t = get_or-set_same (replicate n empty_slot) k x nowhere (subst (λ (i : ℕ). k < i) (sym (length-replicate n empty_slot)) l)

    abbrev pub alone : Slot → List ℤ → Call → Left
    alone x t (Join id a b) = left_by k (ran n s ts (only x t) (Join id a b)) (Join id a b)
    alone x t (Leave id) = left_by k (ran n s ts (only x t) (Leave id)) (Leave id)
    alone x t (Input id d a b j h) = left_by k (ran n s ts (only x t) (Input id d a b j h)) (Input id d a b j h)
    alone x t (Tune index z) = left_by k (ran n s ts (only x t) (Tune index z)) (Tune index z)
    alone x t Step = let y = stepped_seat n s ts k t x in record { shown = y ∷ []; slot = y.slot; tunings = t }

    module _ (w : World) (g : Settled n w) where
      abbrev x : Slot
      x = slot_at w.slots k

      abbrev v : World
      v = only x w.tunings

      full : length v.slots ≡ n
      full = only-full x w.tunings

      same : (id : ℤ) → not (eqb (place_of n id) k) ≡ false → (slot_at w.slots (place_of n id)).present ≡ (slot_at v.slots (place_of n id)).present
      same id e = go (eqb (place_of n id) k) refl e
        where
          go : (b : Bool) → eqb (place_of n id) k ≡ b → not b ≡ false → (slot_at w.slots (place_of n id)).present ≡ (slot_at v.slots (place_of n id)).present
          go true q z = let r : k ≡ place_of n id = sym (eqb-true (place_of n id) k q) in subst (λ (j : ℕ). (slot_at w.slots j).present ≡ (slot_at v.slots j).present) r (ap (λ (y : Slot). y.present) (sym (only_at x w.tunings)))
          go false q z = absurd (true≢false z)

      -- the number and the old slot decide the new one
      decided : (f : ℕ → Slot → Slot) (a b : Answer) → slot_at a.world.slots k ≡ f a.number x → slot_at b.world.slots k ≡ f b.number (slot_at v.slots k) → a.number ≡ b.number → slot_at a.world.slots k ≡ slot_at b.world.slots k
      decided f a b p q e = p ∙ ap₂ f e (sym (only_at x w.tunings)) ∙ sym q

      pub own-call : (c : Call) → Free x → for_other n k c ≡ false → (c ≡ Step → SoloStep n s ts w) → left_by k (ran n s ts w c) c ≡ alone x w.tunings c
      own-call (Join id a b) f e h =
          let q = decided (λ m y. cond (eqb (place_of n id) k && eqb m 0) (joined_slot (point_of a b)) y) (join n w s ts id a b) (join n v s ts id a b) (join_slot n s ts w g.seats k id a b) (join_slot n s ts v full k id a b) (join_number n w v id (same id e) s ts a b) in
          λ i. record { shown = []; slot = q i; tunings = (join-tunings w id a b ∙ sym (join-tunings v id a b)) i }
      own-call (Leave id) f e h =
          let q = decided (λ m y. cond (eqb m 0) (cond (eqb (place_of n id) k) empty_slot (released_slot y (place_of n id))) y) (leave n w id) (leave n v id) (leave_slot n s ts w g.seats k id) (leave_slot n s ts v full k id) (leave_number n w v id (same id e)) in
          λ i. record { shown = []; slot = q i; tunings = (leave-tunings w id ∙ sym (leave-tunings v id)) i }
      own-call (Input id d a b j o) f e h =
          let p = input_of d a b j o in
          let q = decided (λ m y. cond (eqb (place_of n id) k && eqb m 0) (with_input y p) y) (input n w id p) (input n v id p) (input_slot n s ts w g.seats k id p) (input_slot n s ts v full k id p) (input_number n w v id (same id e) p) in
          λ i. record { shown = []; slot = q i; tunings = (input-tunings w id p ∙ sym (input-tunings v id p)) i }
      own-call (Tune index z) f e h =
          let q = tune_slot n s ts w g.seats k index z ∙ sym (only_at x w.tunings) ∙ sym (tune_slot n s ts v full k index z) in
          λ i. record { shown = []; slot = q i; tunings = tune_tunings w v index z refl i }
      own-call Step f e h =
          let q = step_seat n s ts k l w g.seats f (h refl) in
          λ i. record { shown = q i ∷ []; slot = (q i).slot; tunings = step_tunings n s ts w i }

  -- ---- no hook ever holds anybody
  module _ (k : ℕ) (l : k < n) where
    pub free-next : (w : World) (c : Call) → Settled n w → Free (slot_at w.slots k) → (c ≡ Step → SoloStep n s ts w) → Free (slot_at (ran n s ts w c).world.slots k)
    free-next w (Join id x y) g f h = rw (join_slot n s ts w g.seats k id x y) (by_test Free (eqb (place_of n id) k && eqb (join n w s ts id x y).number 0) (λ e. joined_free (point_of x y)) (λ e. f))
    free-next w (Leave id) g f h = rw (leave_slot n s ts w g.seats k id) (by_test Free (eqb (leave n w id).number 0) (λ e. by_test Free (eqb (place_of n id) k) (λ q. empty_free) (λ q. subst Free (sym (free_released (slot_at w.slots k) (place_of n id) f)) f)) (λ e. f))
    free-next w (Input id d x y j o) g f h = let i = input_of d x y j o in rw (input_slot n s ts w g.seats k id i) (by_test Free (eqb (place_of n id) k && eqb (input n w id i).number 0) (λ e. f) (λ e. f))
    free-next w (Tune index z) g f h = rw (tune_slot n s ts w g.seats k index z) f
    free-next w Step g f h = subst (λ (y : Seen). Free y.slot) (sym (step_seat n s ts k l w g.seats f (h refl))) (stepped_free n s ts k w.tunings (slot_at w.slots k) f)
