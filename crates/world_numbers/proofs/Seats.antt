-- Seats that are read one after the other, and one of them by its id. Assumes nothing.
use Prim.Native.Nat.{ℕ, ◌+◌, ◌*◌, ◌<◌}
use mathlib.Core.Path.{◌≡◌, sym, ap, ◌∙◌}
use mathlib.Core.List.{List}
use lib.IntN.{ℤ}
use lib.ListN.{length, take, drop, set}
use lib.Seq.{drop-drop}
use Rattle.character.specs.Tick.{slot_at, nowhere}
use Rattle.character.specs.declared.Slot.{Slot}
use Rattle.game_tuning.specs.Tuning.{tuning_count}
use Rattle.world_numbers.specs.Encoding.{seat_count}
use Rattle.world_numbers.specs.Decoding.{seat_of, seats_of, decoding}
use Rattle.world_numbers.proofs.RowsIn.{next_read, row_in}

-- behind the tunings
behind : (i : ℕ) (l : List ℤ) → drop (tuning_count + seat_count * i) l ≡ drop (seat_count * i) (drop tuning_count l)
behind i l = sym (drop-drop (seat_count * i) tuning_count l)

-- the first i seats are read, and the next one from where its numbers start
pub next_seat : (i : ℕ) (l : List ℤ) (ss : List Slot) (s : Slot) → i < length ss → take i ss ≡ seats_of i (drop tuning_count l) → s ≡ seat_of (drop (tuning_count + seat_count * i) l) → take (i + 1) (set ss i s) ≡ seats_of (i + 1) (drop tuning_count l)
next_seat i l ss s h q e = next_read seat_of seat_count i (drop tuning_count l) ss s h q (e ∙ ap seat_of (behind i l))

-- the seat of an id, out of all of them
pub seat_is : (n k : ℕ) (l : List ℤ) → k < n → slot_at (decoding n l).slots k ≡ seat_of (drop (tuning_count + seat_count * k) l)
unfolding decoding
seat_is n k l h = row_in seat_of seat_count n k (drop tuning_count l) nowhere h ∙ ap seat_of (sym (behind k l))
