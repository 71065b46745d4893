use Prim.Native.Nat.{◌+◌, ◌*◌, ◌-◌, ◌≤◌}
use mathlib.Core.Path.{◌≡◌}
use lib.ListN.{length, take}
use Rattle.text_decimal.specs.Lines.{end_byte}
use Rattle.text_decimal.proofs.Lines.{front}
use Rattle.base_rows.specs.Put.{put}
use Rattle.text_writing.proofs.line.put_line.Given as goal

abbrev pub invariant-loop-i : goal.invariant-loop-i
invariant-loop-i l =
    (l.i ≤ length l.values) × (l.next ≤ l.at + 12 * l.i) × (l.next ≡ l.at + length (front end_byte (length l.values - l.i) (take l.i l.values))) × (l.buf ≡ put l.initial.buf l.at (front end_byte (length l.values - l.i) (take l.i l.values))) × (length l.buf ≡ length l.initial.buf)
