use mathlib.Core.Bool.{true, false, true≢false}
use mathlib.Core.Path.{◌≡◌, refl, ◌∙◌}
use Prim.Native.Nat.{◌<◌}
use native.Mathlib.Omega.{arith}
use lib.IntN.{ℤ, pos, negsuc}
use lib.Signed.{lt_z}
use mir.Facts.{to_z-of_z}
use borrow.Author.Tests.{ltb-true}
use Rattle.world_numbers.specs.Decoding.{from_zero}
use Rattle.world_numbers.proofs.decoding.from_zero.Goals as goal

below : (z : ℤ) → lt_z z (pos 0) ≡ true → pos 0 ≡ from_zero z
unfolding from_zero
below (pos k) e = let h : k < 0 = ltb-true k 0 e in absurd (omega arith)
below (negsuc k) e = refl

above : (z : ℤ) → lt_z z (pos 0) ≡ false → z ≡ from_zero z
unfolding from_zero
above (pos k) e = refl
above (negsuc k) e = absurd (true≢false e)

pub returns-then-z-lt0 : goal.returns-then-z-lt0
returns-then-z-lt0 c = below c.args.z (rw (to_z-of_z c.ranges.z) at c.if-z-lt0.true)

pub returns-else-z-lt0 : goal.returns-else-z-lt0
returns-else-z-lt0 c = to_z-of_z c.ranges.z ∙ above c.args.z (rw (to_z-of_z c.ranges.z) at c.if-z-lt0.false)
