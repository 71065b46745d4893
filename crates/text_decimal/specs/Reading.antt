-- What the readers of numbers answer, said by what is written. Definitions only.
use Rattle.std.specs.Prelude.{ℕ, ◌^◌, ◌≤◌, List, ℤ, Option, Some, None}
use Rattle.num_convert.specs.Casts.{IsI32}
use Rattle.text_decimal.specs.Decimal.{digits, written}
use Rattle.text_decimal.specs.Lines.{ended}
use Rattle.text_decimal.specs.Places.{Stands, Absent}

-- a number up to 2^31, ended by the byte `stop`: the one that stands at `at` with the place past its end, or that none does
unfoldable pub NumberAt : ℕ → List ℕ → ℕ → Option (ℕ × ℕ) → Type 0
NumberAt stop s at (Some (n, next)) = (n ≤ 2 ^ 31) × Stands (ended (digits 10 n) stop) s at next
NumberAt stop s at None = (n : ℕ) → n ≤ 2 ^ 31 → Absent (ended (digits 10 n) stop) s at

-- an i32, ended by the byte `stop`
unfoldable pub ValueAt : ℕ → List ℕ → ℕ → Option (ℤ × ℕ) → Type 0
ValueAt stop s at (Some (z, next)) = IsI32 z × Stands (ended (written z) stop) s at next
ValueAt stop s at None = (z : ℤ) → IsI32 z → Absent (ended (written z) stop) s at
