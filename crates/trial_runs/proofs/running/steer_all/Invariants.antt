use Prim.Native.Nat.{◌-◌, ◌≤◌}
use mathlib.Core.Path.{◌≡◌}
use lib.ListN.{length}
use Rattle.base_turns.specs.Turns.{more}
use Rattle.base_turns.proofs.Loop.{Left, always}
use Rattle.character.specs.Tick.{seats}
use Rattle.world_numbers.specs.Encoding.{world_count}
use Rattle.trial_rule.specs.Trial.{player_at}
use Rattle.trial_runs.specs.InPlace.{steered_at, steered_all}
use Rattle.trial_runs.proofs.running.steer_all.Given as goal

abbrev pub invariant-loop-j : goal.invariant-loop-j
invariant-loop-j l = (length l.world ≡ world_count) × (l.j ≤ seats) × Left (always (λ i. steered_at l.sides (player_at l.players i) i)) seats l.j l.world (more (steered_all l.sides l.players l.initial.world))

abbrev pub decreases-loop-j : goal.decreases-loop-j
decreases-loop-j l = seats - l.j
