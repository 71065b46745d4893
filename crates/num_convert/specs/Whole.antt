-- `round_to_i32` and `trunc_to_i32`: a float to a whole number. Definitions only.
use Rattle.std.specs.Prelude.{ℕ, ◌+◌, ◌-◌, ◌*◌, ◌/◌, ◌^◌, min, Bool, cond, ℤ, pos, neg_ℤ, Float}
use Rattle.std.specs.Float.{nan, inf, fin}
use Rattle.std.specs.Float.Ieee.{up, down}

-- a / c cut to a whole number after u halves are added: towards zero for u = 0, to the nearest with a half up for u = 1
abbrev pub cut : ℕ → ℕ → ℕ → ℕ
cut u a c = (a * 2 + u * c) / (c * 2)

-- the size a with the sign s, or the nearer end of the range from -2 ^ h to 2 ^ h - 1
abbrev pub signed : ℕ → Bool → ℕ → ℤ
signed h s a = cond s (neg_ℤ (pos (min a (2 ^ h)))) (pos (min a (2 ^ h - 1)))

-- a float as an integer of h bits and a sign, its size cut after u halves: 0 for a not-a-number, an end of the range beyond it
unfoldable pub whole_of : ℕ → ℕ → Float → ℤ
whole_of h u nan = pos 0
whole_of h u (inf s) = cond s (neg_ℤ (pos (2 ^ h))) (pos (2 ^ h - 1))
whole_of h u (fin s m e) = signed h s (cut u (m * up e) (down e))

-- nearest, halves away from zero
abbrev pub round_to_i32 : Float → ℤ
round_to_i32 x = whole_of 31 1 x

-- towards zero
abbrev pub trunc_to_i32 : Float → ℤ
trunc_to_i32 x = whole_of 31 0 x
