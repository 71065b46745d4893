use mathlib.Core.Path.{◌≡◌}
use Prim.Native.Nat.{ℕ, ◌+◌, ◌≤◌}
use lib.IntN.{ℤ}
use Rattle.aim_rule.specs.Angle.{fitting, largest}
use Rattle.aim_scan.proofs.scan.scan_down.Given as goal

pub record Left (x y : ℤ) (from n read : ℕ) : Type 0 where
  pub within : n ≤ from
  pub same : largest (fitting x y) from ≡ largest (fitting x y) n
  pub count : read + n ≡ from + 1

abbrev pub invariant-loop-n : goal.invariant-loop-n
invariant-loop-n l = Left l.x l.y l.from l.n l.read

abbrev pub decreases-loop-n : goal.decreases-loop-n
decreases-loop-n l = l.n
