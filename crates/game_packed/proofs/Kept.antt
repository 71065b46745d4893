-- What is kept of a number, by its bits. Assumes nothing.
use Prim.Native.Nat.{◌^◌, ◌<◌}
use mathlib.Core.Bool.{true, false}
use mathlib.Core.Path.{◌≡◌, refl}
use native.Mathlib.Omega.{arith}
use lib.IntN.{ℤ, pos, negsuc}
use Rattle.num_convert.specs.Casts.{IsI32}
use Rattle.game_packed.specs.Packed.{kept, sign_bit}
use Rattle.game_packed.specs.Unpacked.{signed}

pub kept_fits : (z : ℤ) → IsI32 z → kept z < 2 ^ 31
kept_fits (pos n) i = i
kept_fits (negsuc n) i = omega arith

-- the number of its sign and what is kept of it
pub signed-kept : (z : ℤ) → (sign_bit z ≡ 64 → signed true (kept z) ≡ z) × (sign_bit z ≡ 0 → signed false (kept z) ≡ z)
unfolding signed
signed-kept (pos n) = (λ e. absurd (omega arith), λ e. refl)
signed-kept (negsuc n) = (λ e. refl, λ e. absurd (omega arith))
