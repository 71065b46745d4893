-- Whole numbers and records as the game's packed bytes. Definitions only.
use Rattle.std.specs.Prelude.{ℕ, zero, suc, ◌+◌, ◌-◌, ◌*◌, ◌/◌, ◌%◌, cond, List, [], ◌∷◌, ◌++◌, eqb, ℤ, pos, negsuc, length, replicate}
use Rattle.game_records.specs.Numbers.{core_count, core_numbers}
use Rattle.game_records.specs.declared.CharacterCore.{CharacterCore}
use Rattle.game_packed.specs.declared.Packed.{Packed}

-- ---- one whole number

-- what is kept of a number: a negative n is kept as -1 - n
abbrev pub kept : ℤ → ℕ
kept (pos n) = n
kept (negsuc n) = n

-- bit 6 of the first byte is the sign
abbrev pub sign_bit : ℤ → ℕ
sign_bit (pos n) = 0
sign_bit (negsuc n) = 64

-- bit 7 says that more follows: that anything is left
abbrev pub more_bit : ℕ → ℕ
more_bit m = cond (eqb m 0) 0 128

-- at most k later bytes: seven bits each, the lowest first
unfoldable pub later_bytes : ℕ → ℕ → List ℕ
later_bytes zero m = []
later_bytes (suc k) m = cond (eqb m 0) [] ((m % 128 + more_bit (m / 128)) ∷ later_bytes k (m / 128))

-- how many later bytes a number has at most
abbrev pub most_later : ℕ
most_later = 4

-- the low six bits of the first byte are the lowest of the value
unfoldable pub int_bytes : ℤ → List ℕ
int_bytes z = (kept z % 64 + sign_bit z + more_bit (kept z / 64)) ∷ later_bytes most_later (kept z / 64)

-- ---- a record

-- numbers one after another
unfoldable pub ints_bytes : List ℤ → List ℕ
ints_bytes [] = []
ints_bytes (z ∷ zs) = int_bytes z ++ ints_bytes zs

-- a record's fifteen numbers in the order of `CharacterCore`
abbrev pub core_bytes : CharacterCore → List ℕ
core_bytes n = ints_bytes (core_numbers n)

-- five bytes for each number
abbrev pub most_packed : ℕ
most_packed = (1 + most_later) * core_count

-- 75 bytes and a count; those past the count are 0
unfoldable pub packed : CharacterCore → Packed
packed n = record { bytes = core_bytes n ++ replicate (most_packed - length (core_bytes n)) 0; count = length (core_bytes n) }
