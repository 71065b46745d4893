-- Numbers as one word. Definitions only.
use Rattle.std.specs.Prelude.{ℕ, ◌+◌, ◌*◌, ◌%◌, cond, List, length, ℤ, pos, nat_lt, slice_index_or}
use Rattle.base_turns.specs.Turns.{fold}
use Rattle.num_convert.specs.Casts.{cast_unsigned}

-- the digest of one number more, which goes in as its bits
abbrev pub mixed : ℕ → ℤ → ℕ
mixed h z = (h * 16777619 + cast_unsigned z) % 4294967291

abbrev pub number_turn : List ℤ → ℕ → ℕ → ℕ
number_turn zs i h = mixed h (slice_index_or zs i (pos 0))

unfoldable pub digest_of : List ℤ → ℕ
digest_of zs = fold (number_turn zs) (length zs) 0 0

-- the number in the place i, where it is among the first
abbrev pub first_turn : ℕ → List ℤ → ℕ → ℕ → ℕ
first_turn count zs i h = cond (nat_lt i count) (number_turn zs i h) h

unfoldable pub mixed_first : ℕ → List ℤ → ℕ → ℕ
mixed_first count zs h = fold (first_turn count zs) (length zs) 0 h
