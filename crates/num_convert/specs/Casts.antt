-- Rust's `as` between i32 and u32: the same 32 bits. Definitions only.
use Rattle.std.specs.Prelude.{ℕ, suc, ◌-◌, ◌^◌, ◌<◌, cond, ℤ, pos, negsuc, nat_lt}
use Rattle.std.specs.Int.Signed.{mag}

-- z is an i32
abbrev pub IsI32 : ℤ → Type 0
IsI32 z = mag z < 2 ^ 31

-- below 2 ^ 31 itself, from there on n - 2 ^ 32
unfoldable pub cast_signed : ℕ → ℤ
cast_signed n = cond (nat_lt n (2 ^ 31)) (pos n) (negsuc (2 ^ 32 - suc n))

-- from 0 on itself, below it z + 2 ^ 32
unfoldable pub cast_unsigned : ℤ → ℕ
cast_unsigned (pos n) = n
cast_unsigned (negsuc n) = 2 ^ 32 - suc n
