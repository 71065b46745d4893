use Prim.Native.Nat.{◌+◌, ◌*◌, ◌-◌, ◌≤◌}
use mathlib.Core.List.{◌++◌}
use mathlib.Core.Path.{◌≡◌}
use lib.ListN.{length, take}
use Rattle.character.specs.Tick.{seats}
use Rattle.world_numbers.specs.Encoding.{each}
use Rattle.trial_rule.specs.Calls.{told_count, row_count, player_numbers}
use Rattle.trial_runs.proofs.telling.tried_numbers.Given as goal

abbrev pub invariant-loop-j : goal.invariant-loop-j
invariant-loop-j l = (l.j ≤ seats) × (length l.row ≡ row_count seats) × (take (1 + told_count * l.j) l.row ≡ take 1 l.initial.row ++ each player_numbers (take l.j l.players))

abbrev pub decreases-loop-j : goal.decreases-loop-j
decreases-loop-j l = seats - l.j
