use Prim.Native.Nat.{◌-◌}
use mathlib.Core.Path.{◌≡◌}
use lib.ListN.{length}
use Rattle.character.specs.Tick.{seats}
use Rattle.world_numbers.specs.Encoding.{records_count}
use Rattle.trial_rule.specs.Trial.{tuned_to}
use Rattle.trial_runs.proofs.OneTurn.{state, Runs}
use Rattle.trial_runs.proofs.running.run_tuning.Given as goal

abbrev pub invariant-loop-i : goal.invariant-loop-i
invariant-loop-i l =
    (length l.records ≡ records_count) × (length l.removed ≡ seats) × Runs l.sides l.tiles l.steps (tuned_to l.tuning (state l.start l.initial.players)) l.i l.world l.players

abbrev pub decreases-loop-i : goal.decreases-loop-i
decreases-loop-i l = l.steps - l.i
