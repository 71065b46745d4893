use Prim.Native.Nat.{◌≤◌}
use mathlib.Core.Path.{◌≡◌}
use lib.ListN.{length, drop}
use Rattle.text_decimal.proofs.Scan.{scan_number, more}
use Rattle.text_decimal.proofs.unsigned.read_number.Given as goal

abbrev pub invariant-loop-i : goal.invariant-loop-i
invariant-loop-i l = (l.i ≤ length l.text) × (l.n ≤ 2147483648) × (scan_number l.stop l.at (drop l.at l.text) ≡ more l.stop l.n l.i (drop l.i l.text))
