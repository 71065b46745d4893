use Prim.Native.Nat.{◌+◌, ◌*◌, ◌-◌, ◌≤◌}
use mathlib.Core.Path.{◌≡◌, refl, sym, ap, ◌∙◌}
use mathlib.Core.List.{[]}
use native.Mathlib.Omega.{arith}
use lib.ListN.{length, take}
use lib.Seq.{take_all}
use borrow.Author.Rules.{rules}
use Rattle.character.specs.Tick.{seats}
use Rattle.world_numbers.specs.Encoding.{record_count, records_count, each, record_numbers, records_encoding}
use Rattle.world_numbers.proofs.Rows.{next_row, record_long}
use Rattle.world_numbers.proofs.encoding.encode_records.Given as goal

abbrev pub invariant-loop-i : goal.invariant-loop-i
invariant-loop-i l = (l.i ≤ seats) × (length l.numbers ≡ records_count) × (take (record_count * l.i) l.numbers ≡ each record_numbers (take l.i l.records))

abbrev pub decreases-loop-i : goal.decreases-loop-i
decreases-loop-i l = seats - l.i
