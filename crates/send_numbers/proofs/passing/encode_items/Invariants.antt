use Prim.Native.Nat.{◌-◌, ◌≤◌}
use mathlib.Core.Path.{◌≡◌}
use lib.ListN.{length}
use Rattle.send_numbers.specs.Passing.{passed_count}
use Rattle.send_numbers.proofs.PassedBack.{Written}
use Rattle.send_numbers.proofs.passing.encode_items.Given as goal

abbrev pub invariant-loop-i : goal.invariant-loop-i
invariant-loop-i l = (l.i ≤ l.count) × (length l.numbers ≡ passed_count) × Written l.initial.numbers l.items l.i l.numbers l.at

abbrev pub decreases-loop-i : goal.decreases-loop-i
decreases-loop-i l = l.count - l.i
