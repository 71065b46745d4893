use Prim.Native.Nat.{ℕ, ◌+◌, ◌*◌, ◌-◌, ◌≤◌}
use mathlib.Core.Path.{◌≡◌, sym, ap, ap₂, ◌∙◌}
use mathlib.Core.List.{List, ◌++◌, append-nil}
use native.Mathlib.Omega.{arith}
use lib.IntN.{ℤ}
use lib.ListN.{length, take, length-map}
use lib.Seq.{take_all}
use borrow.Author.Rules.{rules}
use Rattle.base_rows.specs.Put.{put}
use Rattle.base_rows.proofs.Puts.{take_put}
use Rattle.character.specs.Tick.{seats}
use Rattle.character.specs.declared.Slot.{Slot}
use Rattle.game_tuning.specs.Tuning.{tuning_count}
use Rattle.world_numbers.specs.Encoding.{seat_count, world_count, each, seat_numbers, encoding}
use Rattle.world_numbers.proofs.Rows.{next_row, seat_long}
use Rattle.world_numbers.proofs.encoding.encode.Given as goal

abbrev pub invariant-loop-i : goal.invariant-loop-i
invariant-loop-i l = (l.i ≤ seats) × (length l.numbers ≡ world_count) × (take (tuning_count + seat_count * l.i) l.numbers ≡ take tuning_count l.initial.numbers ++ each seat_numbers (take l.i l.slots))

abbrev pub decreases-loop-i : goal.decreases-loop-i
decreases-loop-i l = seats - l.i
