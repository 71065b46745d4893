-- Demand 1 holds of the calls of a world. Assumes nothing.
use Prim.Native.Nat.{ℕ}
use mathlib.Core.Bool.{Bool, true, false, cond}
use mathlib.Core.List.{List}
use mathlib.Core.Path.{◌≡◌, refl, ap}
use Rattle.base_turns.specs.Turns.{Turn, more, stop, next}
use Rattle.map_tiles.specs.Map.{is_map}
use Rattle.map_tiles.specs.declared.tiles.Sides.{Sides}
use Rattle.game_tuning.specs.Tuning.{tuning_of}
use Rattle.world.specs.declared.call.Call.TheVariants.{Join, Leave, Input, Step, Tune}
use Rattle.world.specs.Demand1.{Demand1}
use Rattle.world.specs.Run.{input_of}
use Rattle.world.specs.Step.{Moving, tick_all, move_all, step_refused, step_answer, step_on, step}
use Rattle.world.specs.Answered.{Answer}
use Rattle.world.specs.declared.World.{World}
use Rattle.world.proofs.Outcomes.{Outcome, no, yes, join_outcome, leave_outcome, input_outcome, tune_outcome}

-- any call but step
left : {w u : World} {F : Type 0} (a : Answer) → Outcome w u F a → (a.number ≡ 0 → ⊥) → a.world ≡ w
left a (no r e) h = ap (λ (b : Answer). b.world) e
left a (yes f e) h = absurd (h (ap (λ (b : Answer). b.number) e))

answer_left : (n : ℕ) (w : World) (s : Sides) (ts : List ℕ) (a : Turn Moving ℕ) → ((step_answer n w s ts a).number ≡ 0 → ⊥) → (step_answer n w s ts a).world ≡ w
answer_left n w s ts (more m) h = absurd (h refl)
answer_left n w s ts (stop k) h = refl

step_left : (n : ℕ) (w : World) (s : Sides) (ts : List ℕ) → ((step n w s ts).number ≡ 0 → ⊥) → (step n w s ts).world ≡ w
unfolding step step_on
step_left n w s ts = go (is_map s ts)
  where
    go : (b : Bool) → ((cond b (step_on n w s ts) (step_refused n w 1)).number ≡ 0 → ⊥) → (cond b (step_on n w s ts) (step_refused n w 1)).world ≡ w
    go true h = let t = tuning_of w.tunings in answer_left n w s ts (next (λ ss. move_all n ss s ts t) (tick_all n w.slots s ts t)) h
    go false h = refl

pub demand1 : (n : ℕ) → Demand1 n
demand1 n s ts w (Join id x y) h = left _ (join_outcome n w s ts id x y) h
demand1 n s ts w (Leave id) h = left _ (leave_outcome n w id) h
demand1 n s ts w (Input id d x y j k) h = left _ (input_outcome n w id (input_of d x y j k)) h
demand1 n s ts w Step h = step_left n w s ts h
demand1 n s ts w (Tune index z) h = left _ (tune_outcome w index z) h
