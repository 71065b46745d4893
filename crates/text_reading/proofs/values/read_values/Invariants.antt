use Prim.Native.Nat.{◌≤◌}
use mathlib.Core.Path.{◌≡◌}
use lib.ListN.{length, take}
use Rattle.text_decimal.specs.Lines.{end_byte}
use Rattle.text_decimal.proofs.Lines.{Begun}
use Rattle.text_reading.proofs.values.read_values.Given as goal

abbrev pub invariant-loop-i : goal.invariant-loop-i
invariant-loop-i l = (l.i ≤ 7) × (length l.value-items ≡ 7) × Begun end_byte 7 (take l.i l.value-items) l.text l.at l.place
