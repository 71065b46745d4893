-- What the parts of the reader answer. Definitions only.
use Rattle.std.specs.Prelude.{ℕ, Bool, true, false, cond, ◌&&◌, List, [], ◌∷◌, ◌≡◌, eqb, ℤ, pos, negsuc, length, Option, Some, None}
use Rattle.num_convert.specs.Casts.{IsI32}
use Rattle.text_decimal.specs.Lines.{line, All}
use Rattle.text_decimal.specs.Places.{Stands, Absent}
use Rattle.text_reading.specs.Calls.{values}
use Rattle.world.specs.declared.call.Call.{Call}

-- the line of seven values that stands at `at`, with the place past it, or that none does
unfoldable pub ValuesAt : List ℕ → ℕ → Option (List ℤ × ℕ) → Type 0
ValuesAt s at (Some (zs, next)) = (length zs ≡ 7) × All IsI32 zs × Stands (line zs) s at next
ValuesAt s at None = (ys : List ℤ) → length ys ≡ 7 → All IsI32 ys → Absent (line ys) s at

-- the call that has these values, or that none has
unfoldable pub DecodedAs : List ℤ → Option Call → Type 0
DecodedAs zs (Some c) = values c ≡ zs
DecodedAs zs None = (c : Call) → values c ≡ zs → ⊥

-- every value is 0
unfoldable pub all_zero : List ℤ → Bool
all_zero [] = true
all_zero (pos n ∷ zs) = eqb n 0 && all_zero zs
all_zero (negsuc n ∷ zs) = false

-- a call, where its spare values are 0
unfoldable pub with_spare : List ℤ → Call → Option Call
unfolding all_zero
with_spare zs c = cond (all_zero zs) (Some c) None
