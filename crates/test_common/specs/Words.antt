-- Words, numbers and tiles in a line of text. Definitions only.
use Rattle.std.specs.Prelude.{◌≡◌, ℕ, ◌+◌, ◌-◌, ◌*◌, ◌/◌, ◌%◌, ◌^◌, ◌<◌, cond, List, [], length, drop, replicate, ℤ, pos, nat_lt, slice_index, slice_index_or, slice_set}
use Rattle.base_turns.specs.Turns.{fold}
use Rattle.num_convert.specs.Casts.{cast_signed}
use Rattle.map_tiles.specs.declared.tiles.Sides.{Sides}

-- the value of a hexadecimal digit; 0 for any other byte
unfoldable pub hex_of : ℕ → ℕ
hex_of b = cond (nat_lt b 48) 0 (cond (nat_lt b 58) (b - 48) (cond (nat_lt b 97) 0 (cond (nat_lt b 103) (b - 87) 0)))

-- the digit at i, if there is one, goes behind those before it
abbrev pub digit_turn : List ℕ → ℕ → ℕ → ℕ
digit_turn s i h = cond (nat_lt i (length s)) (h % 2 ^ 28 * 16 + hex_of (slice_index s i)) h

-- the first 8 digits as a number
unfoldable pub word_of : List ℕ → ℕ
word_of s = fold (digit_turn s) 8 0 0

-- the words from the number k on; each ends with a byte of its own
unfoldable pub words_from : List ℕ → ℕ → List ℕ
words_from s k = cond (nat_lt k (length s / 9)) (drop (k * 9) s) []

-- the word with the number k
unfoldable pub word_at : List ℕ → ℕ → ℕ
word_at s k = word_of (words_from s k)

-- the number at i is the word with the number i
abbrev pub number_turn : List ℕ → ℕ → List ℤ → List ℤ
number_turn s i zs = slice_set zs i (cast_signed (word_at s i))

-- a row of so many numbers, each from its word
unfoldable pub numbers_in : List ℕ → List ℤ → List ℤ
numbers_in s zs = fold (number_turn s) (length zs) 0 zs

-- every number of a row is its word
abbrev pub AreNumbers : List ℕ → List ℤ → Type 0
AreNumbers s zs = (k : ℕ) → k < length zs → slice_index_or zs k (pos 0) ≡ cast_signed (word_at s k)

-- the tile at i is the digit there, if there is one
abbrev pub tile_turn : List ℕ → ℕ → List ℕ → List ℕ
tile_turn s i ts = cond (nat_lt i (length s)) (slice_set ts i (hex_of (slice_index s i))) ts

-- 64 tiles, a digit each
unfoldable pub tiles_of : List ℕ → List ℕ
tiles_of s = fold (tile_turn s) 64 0 (replicate 64 0)

-- ---- the map of a line, after its mark

-- the number of two digits
abbrev pub two_digits : ℕ → ℕ → ℕ
two_digits a b = hex_of a * 16 + hex_of b

unfoldable pub width_in : List ℕ → ℕ
width_in s = two_digits (slice_index s 2) (slice_index s 3)

unfoldable pub height_in : List ℕ → ℕ
height_in s = two_digits (slice_index s 5) (slice_index s 6)

abbrev pub sides_in : List ℕ → Sides
sides_in s = record { width = width_in s; height = height_in s }

abbrev pub tiles_in : List ℕ → List ℕ
tiles_in s = tiles_of (drop 8 s)
