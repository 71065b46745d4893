use Prim.Native.Nat.{◌-◌, ◌≤◌}
use mathlib.Core.Path.{◌≡◌}
use lib.ListN.{length}
use Rattle.character.specs.Places.{Among}
use Rattle.character.specs.Tick.{seats}
use Rattle.world_buffers.proofs.Dying.{Clearing}
use Rattle.world_buffers.proofs.stepping.list_dying.Given as goal

abbrev pub invariant-loop-j : goal.invariant-loop-j
invariant-loop-j l = (l.count ≤ l.j) × (l.j ≤ seats) × (length l.marks ≡ seats) × Among seats l.present l.xs l.ys (λ ss. Clearing l.sides l.tiles ss l.initial.marks l.j l.marks l.ids l.count)

abbrev pub decreases-loop-j : goal.decreases-loop-j
decreases-loop-j l = seats - l.j
