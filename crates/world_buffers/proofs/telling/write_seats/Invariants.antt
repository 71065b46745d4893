use Prim.Native.Nat.{◌-◌, ◌≤◌}
use mathlib.Core.Path.{◌≡◌}
use lib.ListN.{length}
use Rattle.base_turns.specs.Turns.{more}
use Rattle.base_turns.proofs.Loop.{Left, always}
use Rattle.character.specs.Tick.{seats}
use Rattle.world_numbers.specs.Encoding.{world_count}
use Rattle.world_buffers.specs.Stepping.{step_seat, step_seats, OfStep}
use Rattle.world_buffers.proofs.telling.write_seats.Given as goal

abbrev pub invariant-loop-j : goal.invariant-loop-j
invariant-loop-j l = (length l.world ≡ world_count) × (l.j ≤ seats) × OfStep l.rows l.marks (λ a. Left (always (step_seat a)) seats l.j l.world (more (step_seats a l.initial.world)))

abbrev pub decreases-loop-j : goal.decreases-loop-j
decreases-loop-j l = seats - l.j
