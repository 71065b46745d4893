-- The sign of a number at 32 bits. Assumes nothing.
use Prim.Native.Nat.{ℕ, ◌^◌, ◌<◌}
use mathlib.Core.Path.{◌≡◌, refl}
use native.Mathlib.Omega.{arith}
use lib.IntN.{ℤ, pos, negsuc}
use mathlib.Core.Bool.{true, false, true≢false}
use lib.Dec.{ltb}
use lib.Signed.{lt_z}
use borrow.Author.Tests.{ltb-true}
use mir.Syntax.{w32}
use mir.Val.{SFits, to_z, of_z}
use mir.ValLaws.{to_z_pos, to_z-neg}

-- the test z < 0, taken and not
pub under : (z : ℤ) → SFits w32 z → lt_z (to_z w32 (of_z w32 z)) (pos 0) ≡ true → (n : ℕ) × ((n < 2 ^ 31) × (z ≡ negsuc n))
under (pos n) f t = absurd (none n (simp (to_z_pos w32 n f.sfits) at t))
  where
    none : (n : ℕ) → ltb n 0 ≡ true → ⊥
    none n t = omega (arith, ltb-true n 0 t)
under (negsuc n) f t = (n, (f.sfits, refl))

pub over : (z : ℤ) → SFits w32 z → lt_z (to_z w32 (of_z w32 z)) (pos 0) ≡ false → (n : ℕ) × ((n < 2 ^ 31) × (z ≡ pos n))
over (pos n) f t = (n, (f.sfits, refl))
over (negsuc n) f t = let e = to_z-neg w32 n f.sfits in let z : true ≡ false = simp e at t in absurd (true≢false z)
