-- Demand 3 holds, for every number of slots. Assumes nothing.
use Prim.Native.Nat.{ℕ, ◌≤◌, ◌<◌}
use native.Mathlib.Omega.{arith}
use mathlib.Core.Bool.{Bool, true, false, cond, ◌&&◌, ◌||◌, true≢false}
use mathlib.Core.List.{List, [], ◌∷◌}
use mathlib.Core.Path.{◌≡◌, refl, sym, ap, ◌∙◌, subst}
use lib.Dec.{eqb, ltb}
use lib.IntN.{ℤ, pos}
use lib.ListN.{get_or, set}
use lib.Seq.{get_or-set_same, get_or-set_other}
use borrow.Author.Tests.{ne_eqb, eqb-true, eqb-false, ltb-true, ltb-false}
use Rattle.num_vec2.specs.declared.vec2.{vec2}
use Rattle.map_tiles.specs.declared.tiles.Sides.{Sides}
use Rattle.map_tiles.specs.Box.{check_box, Clear, character_box}
use Rattle.map_tiles.specs.Map.{solid}
use Rattle.map_tiles.proofs.Corners.{character_corners}
use Rattle.world.specs.declared.call.Call.{Call}
use Rattle.world.specs.declared.call.Call.TheVariants.{Join, Leave, Input, Step, Tune}
use Rattle.character.specs.Slot.{joined_slot, with_input}
use Rattle.character.specs.Character.{spawn}
use Rattle.character.specs.Tick.{slot_at}
use Rattle.character_laws.proofs.Back.{representable_back}
use Rattle.world.specs.World.{fresh, with_tuning}
use Rattle.game_refusals.specs.Refusals.{bad_tuning, bad_hold}
use Rattle.game_tuning.specs.Tuning.{tuning_count, player_collision, hook_hold, is_hold, may_tune}
use Rattle.world.specs.Calls.{refused, accepted, place_of, point_of}
use Rattle.world.specs.Calls as calls
use Rattle.world.specs.Run.{input_of, ran, after}
use Rattle.world.specs.Demand3.{collision_after, CollisionOff, present_after, present, CornersClear, left, left_on_deadly, StepFaithful, StepsFaithful, Demand3}
use Rattle.world.specs.Settled.{Settled}
use Rattle.world.specs.declared.World.{World}
use Rattle.world.proofs.Standing.{Standing, representable_fits}
use Rattle.world.proofs.Reached.{Reached, set-reached, vacated_reached, fresh-reached, steps}
use Rattle.world.proofs.Settled.{joined_representable, answer-settled, after_settled}
use Rattle.world.proofs.Outcomes.{outcome_kept, Joins, join_outcome, leave_outcome, input_outcome}
use Rattle.world.proofs.Present.{present-next, fresh_absent, present_follows}

abbrev is_step : Call → Bool
is_step (Join id x y) = false
is_step (Leave id) = false
is_step (Input id d x y j h) = false
is_step (Tune index z) = false
is_step Step = true

not_step : (c : Call) → is_step c ≡ false → c ≡ Step → ⊥
not_step c p e = true≢false (sym (ap is_step e) ∙ p)

module _ (n : ℕ) (s : Sides) (ts : List ℕ) where
  -- ---- each call
  -- what a call leaves of a world that is reached with player collision z
  record Next (z : ℤ) (w : World) (c : Call) : Type 0 where
    reached : Reached n s ts (collision_after z c) (ran n s ts w c).world
    told : c ≡ Step → (ran n s ts w c).number ≡ 0 → StepFaithful n w s ts (λ k. (slot_at w.slots k).present)

  joined-stands : (w : World) (id x y : ℤ) → Joins n w s ts id x y → Standing s ts (joined_slot (point_of x y))
  unfolding spawn
  joined-stands w id x y f = let g = representable_fits (spawn (point_of x y)) (joined_representable n w s ts id x y f) in record { clear = λ e. f.clear; pos-fits = λ e. g.0; vel-fits = g.1 }

  join-next : (z : ℤ) (w : World) (id x y : ℤ) → Settled n w → Reached n s ts z w → Next z w (Join id x y)
  join-next z w id x y g h =
      record {
        reached = outcome_kept (Reached n s ts z) w _ _ (join_outcome n w s ts id x y) h (λ f. set-reached n s ts z w (place_of n id) (joined_slot (point_of x y)) h (joined-stands w id x y f));
        told = λ e. absurd (not_step (Join id x y) refl e);
      }

  leave-next : (z : ℤ) (w : World) (id : ℤ) → Settled n w → Reached n s ts z w → Next z w (Leave id)
  leave-next z w id g h =
      record {
        reached = outcome_kept (Reached n s ts z) w _ _ (leave_outcome n w id) h (λ f. vacated_reached n s ts z w (place_of n id) h);
        told = λ e. absurd (not_step (Leave id) refl e);
      }

  input-next : (z : ℤ) (w : World) (id a b c d e : ℤ) → Settled n w → Reached n s ts z w → Next z w (Input id a b c d e)
  input-next z w id a b c d e g h =
      let j = place_of n id in
      let i = input_of a b c d e in
      let x = with_input (slot_at w.slots j) i in
      record {
        reached = outcome_kept (Reached n s ts z) w _ _ (input_outcome n w id i) h (λ f. set-reached n s ts z w j x h (record { clear = λ q. (h.stands j).clear f.there; pos-fits = λ q. (h.stands j).pos-fits f.there; vel-fits = (h.stands j).vel-fits }));
        told = λ q. absurd (not_step (Input id a b c d e) refl q);
      }

  -- ---- tune
  module _ (z : ℤ) (w : World) (g : Settled n w) (h : Reached n s ts z w) (k : ℕ) (v : ℤ) where
    tuned-set : k < tuning_count → (b : Bool) → eqb k player_collision ≡ b → get_or (set w.tunings k v) player_collision (pos 0) ≡ cond b v z
    tuned-set l true e = ap (λ (i : ℕ). get_or (set w.tunings i v) player_collision (pos 0)) (eqb-true k player_collision e) ∙ get_or-set_same w.tunings player_collision v (pos 0) (omega (arith, g.tunings))
    tuned-set l false e = get_or-set_other w.tunings k player_collision v (pos 0) (λ q. eqb-false k player_collision e (sym q)) ∙ h.tuned

    -- the number for player collision is any: the index of a refused tune is another
    tuned-next : (b c : Bool) → ltb k tuning_count ≡ b → may_tune k v ≡ c → Reached n s ts (cond (eqb k player_collision) v z) (cond b (cond c (accepted (with_tuning w k v)) (refused w bad_hold)) (refused w bad_tuning)).world
    unfolding may_tune
    tuned-next true true l m = record { stands = h.stands; tuned = tuned-set (ltb-true k tuning_count l) (eqb k player_collision) refl }
    tuned-next true false l m = rw (ne_eqb k player_collision (λ e. true≢false (sym (ap (λ (i : ℕ). cond (eqb i hook_hold) (is_hold v) true) e) ∙ m))) h
    tuned-next false c l m = rw (ne_eqb k player_collision (λ e. let f : tuning_count ≤ k = ltb-false k tuning_count l in omega arith)) h

  tune-next : (z : ℤ) (w : World) (index v : ℤ) → Settled n w → Reached n s ts z w → Next z w (Tune index v)
  unfolding calls.tune
  tune-next z w index v g h =
      let k = place_of tuning_count index in
      record {
        reached = tuned-next z w g h k v (ltb k tuning_count) (may_tune k v) refl refl;
        told = λ e. absurd (not_step (Tune index v) refl e);
      }

  step-next : (z : ℤ) (w : World) → Reached n s ts z w → z ≡ pos 0 → Next z w Step
  step-next z w h e =
      let x = steps n s ts w (subst (λ (v : ℤ). Reached n s ts v w) e h) in
      record {
        reached = subst (λ (v : ℤ). Reached n s ts v (ran n s ts w Step).world) (sym e) x.reached;
        told = λ i q. record { published = x.published q; faithful = x.faithful q; removed = x.removed q };
      }

  next : (z : ℤ) (w : World) (c : Call) → Settled n w → Reached n s ts z w → (c ≡ Step → z ≡ pos 0) → Next z w c
  next z w (Join id x y) g h o = join-next z w id x y g h
  next z w (Leave id) g h o = leave-next z w id g h
  next z w (Input id a b c d e) g h o = input-next z w id a b c d e g h
  next z w (Tune index v) g h o = tune-next z w index v g h
  next z w Step g h o = step-next z w h (o refl)

  -- ---- every list of calls
  -- who is there, as the slots say it and as the calls do
  abbrev Agrees : World → (ℕ → Bool) → Type 0
  Agrees w there = (k : ℕ) → (slot_at w.slots k).present ≡ there k

  faithful_told : (w : World) (there : ℕ → Bool) → Agrees w there → StepFaithful n w s ts (λ k. (slot_at w.slots k).present) → StepFaithful n w s ts there
  faithful_told w there h f = record { published = λ j l. f.published j l ∙ h j; faithful = λ j l q. f.faithful j l (h j ∙ q); removed = λ j l. f.removed j l ∙ ap (λ (b : Bool). b && left_on_deadly s ts (left n w s ts j)) (h j) }

  record Upto (w : World) (cs : List Call) : Type 0 where
    collision : ℤ
    reached : Reached n s ts collision (after n s ts w cs)
    told : (there : ℕ → Bool) → Agrees w there → StepsFaithful n s ts there w cs

  upto : (cs : List Call) (z : ℤ) (w : World) → Settled n w → Reached n s ts z w → CollisionOff z cs → Upto w cs
  upto [] z w g h o = record { collision = z; reached = h; told = λ there h. tt }
  upto (c ∷ cs) z w g h o =
      let x = next z w c g h o.0 in
      let r = upto cs (collision_after z c) (ran n s ts w c).world (answer-settled n s ts w c g) x.reached o.1 in
      record {
        collision = r.collision;
        reached = r.reached;
        told = λ there q. (λ i e. faithful_told w there q (x.told i e), r.told (λ k. present_after n k (there k) (ran n s ts w c) c) (λ k. present-next n s ts w c g k ∙ ap (λ (b : Bool). present_after n k b (ran n s ts w c) c) (q k)));
      }

-- ---- the four corners
all_false : (a b c d : Bool) → a || b || c || d ≡ false → (a ≡ false) × (b ≡ false) × (c ≡ false) × (d ≡ false)
all_false false false false false e = (refl, refl, refl, refl)
all_false true b c d e = absurd (true≢false e)
all_false false true c d e = absurd (true≢false e)
all_false false false true d e = absurd (true≢false e)
all_false false false false true e = absurd (true≢false e)

pub corners_clear : (s : Sides) (ts : List ℕ) (p : vec2) → Clear s ts p character_box → CornersClear s ts p
unfolding check_box
corners_clear s ts p h = let e = all_false _ _ _ _ (sym (character_corners solid s ts p) ∙ h) in record { right_bottom = e.0; left_top = e.1; right_top = e.2; left_bottom = e.3 }

pub demand3 : (n : ℕ) → Demand3 n
demand3 n s ts cs o =
    let u = upto n s ts cs (pos 100) (fresh n) (after_settled n s ts []) (fresh-reached n s ts) o in
    record {
      clear = λ k l p. corners_clear s ts (slot_at (after n s ts (fresh n) cs).slots k).character.pos ((u.reached.stands k).clear (there k p));
      back = λ k l p. representable_back (slot_at (after n s ts (fresh n) cs).slots k).character ((after_settled n s ts cs).representable k l (there k p));
      steps = u.told (λ k. false) (fresh_absent n);
    }
  where
    there : (k : ℕ) → present n s ts k false (fresh n) cs ≡ true → (slot_at (after n s ts (fresh n) cs).slots k).present ≡ true
    there k p = present_follows n s ts cs k ∙ p
