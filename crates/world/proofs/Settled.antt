-- Every world that calls can reach is settled, for every number of slots, map and player collision. Assumes nothing.
use Prim.Native.Nat.{ℕ, ◌<◌}
use mathlib.Core.Bool.{true, false, true≢false}
use mathlib.Core.List.{List, [], ◌∷◌}
use mathlib.Core.Path.{◌≡◌, refl, sym, ap, ◌∙◌}
use lib.IntN.{ℤ}
use lib.ListN.{length-set, length-replicate, get_or-replicate}
use Rattle.base_turns.specs.Turns.{Turn, more, stop, next}
use Rattle.base_turns.proofs.Kept.{Ends}
use Rattle.map_tiles.specs.Map.{is_map}
use Rattle.map_tiles.specs.declared.tiles.Sides.{Sides}
use Rattle.game_tuning.specs.Tuning.{tuning_of}
use Rattle.game_tuning.specs.declared.Tuning.{Tuning}
use Rattle.world.specs.declared.call.Call.{Call}
use Rattle.world.specs.declared.call.Call.TheVariants.{Join, Leave, Input, Step, Tune}
use Rattle.character_hook.specs.Hook.{holds}
use Rattle.character.specs.Slot.{empty_slot, joined_slot}
use Rattle.character.specs.Character.{spawn}
use Rattle.character.specs.Tick.{slot_at, nowhere}
use Rattle.character.specs.declared.Slot.{Slot}
use Rattle.character_laws.specs.Representable.{Representable}
use Rattle.character_laws.proofs.FromNet.{spawn_representable}
use Rattle.character_laws.proofs.Slots.{set_every}
use Rattle.world.specs.World.{fresh, with_slot, with_tuning}
use Rattle.game_tuning.specs.Tuning.{fresh_tunings, tuning_count}
use Rattle.world.specs.Calls.{place_of, point_of, released, released_slot, vacate, tune}
use Rattle.world.specs.Removal.{dying}
use Rattle.world.specs.Step.{Moving, tick_all, move_all, step_answer, step_on, step}
use Rattle.world.specs.Run.{input_of, ran, after}
use Rattle.world.specs.Settled.{Settled, AfterSettled}
use Rattle.world.specs.Answered.{Stepped}
use Rattle.world.specs.declared.World.{World}
use Rattle.world.proofs.Outcomes.{outcome_kept, reach_i32, Joins, join_outcome, leave_outcome, input_outcome, tune_outcome}
use Rattle.world.proofs.Removal.{removed_kept}
use Rattle.world.proofs.Vacated.{released_representable, vacated_length, vacated_every}
use Rattle.world.proofs.Seats.{by_test, Same, Settling, same_on, ticks_same, moves-settle}

-- where an accepted join puts somebody
pub joined_representable : (n : ℕ) (w : World) (s : Sides) (ts : List ℕ) (id x y : ℤ) → Joins n w s ts id x y → Representable (spawn (point_of x y))
unfolding point_of
joined_representable n w s ts id x y f = spawn_representable x y (reach_i32 x f.x-reach) (reach_i32 y f.y-reach)

module _ (n : ℕ) where
  fresh_settled : Settled n (fresh n)
  unfolding fresh fresh_tunings
  fresh_settled = record {
    seats = length-replicate n empty_slot;
    tunings = refl;
    representable = λ k l q. absurd (true≢false (sym q ∙ ap (λ (x : Slot). x.present) (get_or-replicate n k empty_slot nowhere l)));
    empty = λ k l q. get_or-replicate n k empty_slot nowhere l;
  }

  -- ---- a slot set, and one vacated
  set_settled : (w : World) (j : ℕ) (x : Slot) → Settled n w → (x.present ≡ true → Representable x.character) → (x.present ≡ false → x ≡ empty_slot) → Settled n (with_slot w j x)
  set_settled w j x h r e = record {
    seats = length-set w.slots j x ∙ h.seats;
    tunings = h.tunings;
    representable = set_every (λ k y. k < n → y.present ≡ true → Representable y.character) w.slots j x nowhere h.representable (λ l. r);
    empty = set_every (λ k y. k < n → y.present ≡ false → y ≡ empty_slot) w.slots j x nowhere h.empty (λ l. e);
  }

  -- an empty slot holds nobody
  released_empty : (x : Slot) (k : ℕ) → x ≡ empty_slot → released_slot x k ≡ empty_slot
  unfolding released holds spawn
  released_empty x k e = ap (λ (y : Slot). released_slot y k) e

  pub vacated_settled : (w : World) (k : ℕ) → Settled n w → Settled n (vacate w k)
  vacated_settled w k h = record {
    seats = vacated_length w k ∙ h.seats;
    tunings = h.tunings;
    representable = vacated_every w k (λ j y. j < n → y.present ≡ true → Representable y.character) (λ l q. absurd (true≢false (sym q))) (λ j l q. released_representable (slot_at w.slots j).character k (h.representable j l q));
    empty = vacated_every w k (λ j y. j < n → y.present ≡ false → y ≡ empty_slot) (λ l q. refl) (λ j l q. released_empty (slot_at w.slots j) k (h.empty j l q));
  }

  -- ---- tune
  tune_settled : (w : World) (index z : ℤ) → Settled n w → Settled n (tune w index z).world
  tune_settled w index z h = outcome_kept (Settled n) w _ _ (tune_outcome w index z) h (λ f. set z)
    where
      k : ℕ
      k = place_of tuning_count index

      set : (v : ℤ) → Settled n (with_tuning w k v)
      set v = record { seats = h.seats; tunings = length-set w.tunings k v ∙ h.tunings; representable = h.representable; empty = h.empty }

  -- ---- step
  module _ (s : Sides) (ts : List ℕ) (w : World) (h : Settled n w) where
    abbrev t : Tuning
    t = tuning_of w.tunings

    moved-settled : (us : List Slot) → Same w.slots us → (a : Turn Moving ℕ) → Ends (Settling n s ts t us n) (λ r. 0 < r) a → Settled n (step_answer n w s ts a).world
    moved-settled us d (stop k) l = h
    moved-settled us d (more m) f =
        let e = same_on w.slots us m.slots d f.same in
        removed_kept (Settled n) vacated_settled (dying n s ts m.slots) (record { slots = m.slots; tunings = w.tunings }) (record {
          seats = e.size ∙ h.seats;
          tunings = h.tunings;
          representable = f.moved;
          empty = λ k l q. let p = sym (e.present k) ∙ q in e.absent k p ∙ h.empty k l p;
        })

    ticked-settled : (a : Turn (List Slot) ℕ) → Ends (Same w.slots) (λ r. 0 < r) a → Settled n (step_answer n w s ts (next (λ us. move_all n us s ts t) a)).world
    ticked-settled (stop k) l = h
    ticked-settled (more us) d = moved-settled us d (move_all n us s ts t) (moves-settle n s ts t us)

    step-settled : Settled n (step n w s ts).world
    unfolding step step_on
    step-settled = by_test (λ (a : Stepped). Settled n a.world) (is_map s ts) (λ e. ticked-settled (tick_all n w.slots s ts t) (ticks_same n s ts t w.slots)) (λ e. h)

  -- ---- every call, and every list of them
  module _ (s : Sides) (ts : List ℕ) where
    pub answer-settled : (w : World) (c : Call) → Settled n w → Settled n (ran n s ts w c).world
    answer-settled w (Join id x y) h = outcome_kept (Settled n) w _ _ (join_outcome n w s ts id x y) h (λ f. set_settled w (place_of n id) (joined_slot (point_of x y)) h (λ e. joined_representable n w s ts id x y f) (λ e. absurd (true≢false e)))
    answer-settled w (Leave id) h = outcome_kept (Settled n) w _ _ (leave_outcome n w id) h (λ f. vacated_settled w (place_of n id) h)
    answer-settled w (Input id d x y j k) h = outcome_kept (Settled n) w _ _ (input_outcome n w id (input_of d x y j k)) h (λ f. set_settled w (place_of n id) _ h (λ e. h.representable (place_of n id) f.seat f.there) (λ e. absurd (true≢false (sym f.there ∙ e))))
    answer-settled w Step h = step-settled s ts w h
    answer-settled w (Tune index z) h = tune_settled w index z h

    list-settled : (cs : List Call) (w : World) → Settled n w → Settled n (after n s ts w cs)
    list-settled [] w h = h
    list-settled (c ∷ cs) w h = list-settled cs (ran n s ts w c).world (answer-settled w c h)

pub after_settled : (n : ℕ) → AfterSettled n
after_settled n s ts cs = list-settled n s ts cs (fresh n) (fresh_settled n)
