use Prim.Native.Nat.{◌^◌, ◌<◌}
use Rattle.num_root.proofs.square_root.lowered.Given as goal

abbrev pub invariant-loop-r : goal.invariant-loop-r
invariant-loop-r l = l.r < 2 ^ 25

abbrev pub decreases-loop-r : goal.decreases-loop-r
decreases-loop-r l = l.r
