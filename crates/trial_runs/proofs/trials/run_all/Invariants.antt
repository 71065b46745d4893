use Prim.Native.Nat.{ℕ, ◌*◌, ◌-◌, ◌≤◌}
use mathlib.Core.List.{List, map}
use mathlib.Core.Path.{◌≡◌}
use lib.IntN.{ℤ}
use lib.ListN.{length, take}
use Rattle.map_tiles.specs.declared.tiles.Sides.{Sides}
use Rattle.character.specs.Tick.{seats}
use Rattle.world_numbers.specs.Encoding.{each}
use Rattle.trial_rule.specs.Trial.{tried, tuned_to}
use Rattle.trial_rule.specs.Calls.{row_count, tunings_in, tuning_rows, tried_numbers}
use Rattle.trial_rule.specs.declared.Player.{Player}
use Rattle.trial_rule.specs.declared.Tried.{Tried}
use Rattle.trial_runs.proofs.OneTurn.{state}
use Rattle.trial_runs.proofs.trials.run_all.Given as goal

-- the runs, one for each tuning
abbrev pub runs : List ℤ → List Player → Sides → List ℕ → List ℤ → ℕ → List Tried
runs start players s ts tunings m = map (λ zs. tried seats s ts m (tuned_to zs (state start players))) (tuning_rows tunings)

abbrev pub invariant-loop-k : goal.invariant-loop-k
invariant-loop-k l = (l.k ≤ tunings_in l.tunings) × (length l.res ≡ row_count seats * tunings_in l.tunings) × (take (row_count seats * l.k) l.res ≡ each tried_numbers (take l.k (runs l.start l.players l.sides l.tiles l.tunings l.steps)))

abbrev pub decreases-loop-k : goal.decreases-loop-k
decreases-loop-k l = tunings_in l.tunings - l.k
