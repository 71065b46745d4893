use Prim.Native.Nat.{◌≤◌}
use mathlib.Core.Path.{◌≡◌}
use lib.ListN.{length, take}
use Rattle.base_rows.specs.Put.{put}
use Rattle.base_rows.proofs.copy.Given as goal

abbrev pub invariant-loop-i : goal.invariant-loop-i
invariant-loop-i g l = (l.i ≤ length l.row) × (l.i-end ≡ length l.row) × (length l.numbers ≡ length l.initial.numbers) × (l.numbers ≡ put l.initial.numbers l.at (take l.i l.row))
