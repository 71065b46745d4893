use Prim.Native.Nat.{◌-◌, ◌/◌}
use lib.ListN.{length, replicate}
use Rattle.character.specs.Tick.{seats}
use Rattle.trial_rule.specs.Trial.{no_player, enter_all}
use Rattle.trial_rule.specs.Calls.{join_count, entrants}
use Rattle.trial_runs.proofs.OneTurn.{state}
use Rattle.trial_runs.proofs.Joins.{Entering}
use Rattle.trial_runs.proofs.entering.enter_all.Given as goal

abbrev pub invariant-loop-i : goal.invariant-loop-i
invariant-loop-i l = Entering l.sides l.tiles l.joins l.targets (enter_all seats l.sides l.tiles (entrants l.joins l.targets) (state l.initial.world (replicate seats no_player))) l.i l.world l.players

abbrev pub decreases-loop-i : goal.decreases-loop-i
decreases-loop-i l = length l.joins / join_count - l.i
