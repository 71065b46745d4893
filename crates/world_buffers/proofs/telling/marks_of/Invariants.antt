use Prim.Native.Nat.{ℕ, ◌-◌, ◌≤◌, ◌<◌}
use mathlib.Core.Bool.{false}
use mathlib.Core.Path.{◌≡◌}
use lib.ListN.{length, get_or}
use Rattle.character.specs.Tick.{seats, slot_at}
use Rattle.world_buffers.proofs.telling.marks_of.Given as goal

abbrev pub invariant-loop-j : goal.invariant-loop-j
invariant-loop-j l = (l.j ≤ seats) × (length l.marks ≡ seats) × ((i : ℕ) → i < l.j → get_or l.marks i false ≡ (slot_at l.slots i).grounded)

abbrev pub decreases-loop-j : goal.decreases-loop-j
decreases-loop-j l = seats - l.j
