use mathlib.Core.List.{map}
use mathlib.Core.Path.{◌≡◌}
use Prim.Native.Nat.{◌-◌, ◌≤◌}
use lib.IntN.{nat_abs}
use lib.ListN.{length, take, drop}
use Rattle.world_numbers.specs.Encoding.{world_count}
use Rattle.world_buffers.specs.Leaving.{remove_in}
use Rattle.world_buffers.proofs.leaving.remove_in.Given as goal

abbrev pub invariant-loop-i : goal.invariant-loop-i
invariant-loop-i l = (length l.world ≡ world_count) × (l.i ≤ l.count) × (remove_in l.world (map nat_abs (drop l.i (take l.count l.ids))) ≡ remove_in l.initial.world (map nat_abs (take l.count l.ids)))

abbrev pub decreases-loop-i : goal.decreases-loop-i
decreases-loop-i l = l.count - l.i
