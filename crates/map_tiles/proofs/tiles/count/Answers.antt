use borrow.Author.Rules.{rules}
use mathlib.Core.Path.{◌≡◌, refl, sym}
use mathlib.Core.Bool.{Bool, true, false, true≢false}
use Prim.Native.Nat.{◌-◌, ◌^◌, ◌<◌}
use native.Mathlib.Nat.{not-suc-le-zero}
use borrow.Author.Tests.{ltb-true}
use lib.Dec.{T}
use lib.IntN.{ℤ, pos, negsuc, nat_abs}
use lib.Signed.{lt_z, non_neg, mag}
use mir.Syntax.{w32}
use mir.Val.{SFits, to_z, of_z}
use mir.Facts.{to_z-of_z, Fits-nat_abs}
use Rattle.map_tiles.specs.Map.{count}
use Rattle.map_tiles.proofs.tiles.count.Goals as goal

read : (z : ℤ) (b : Bool) → SFits w32 z → lt_z (to_z w32 (of_z w32 z)) (pos 0) ≡ b → lt_z z (pos 0) ≡ b
read z b f h = rw (to_z-of_z f) at h

below : (z : ℤ) → lt_z z (pos 0) ≡ true → count z ≡ 0
below (pos n) h = absurd (not-suc-le-zero (ltb-true n 0 h))
below (negsuc n) h = refl

not_below : (z : ℤ) → lt_z z (pos 0) ≡ false → T (non_neg z)
not_below (pos n) h = tt
not_below (negsuc n) h = absurd (true≢false h)

whole : (z : ℤ) → lt_z z (pos 0) ≡ false → nat_abs z ≡ count z
whole (pos n) h = refl
whole (negsuc n) h = absurd (true≢false h)

small : (z : ℤ) → lt_z z (pos 0) ≡ false → mag z < 2 ^ 31 → nat_abs z < 2 ^ 31
small (pos n) h l = l
small (negsuc n) h l = absurd (true≢false h)

pub returns-then-n-lt0 : goal.returns-then-n-lt0
returns-then-n-lt0 c = (sym (below c.before.args.n (read c.before.args.n true c.before.ranges.n c.if-n-lt0.true)), search rules)

pub overflow_cast-result : goal.overflow_cast-result
overflow_cast-result c = let z = c.before.args.n in rw (to_z-of_z {z = z} c.before.ranges.n) (not_below z (read z false c.before.ranges.n c.if-n-lt0.false), Fits-nat_abs tt c.before.ranges.n)

pub returns : goal.returns
returns c = let z = c.before.args.n in let l = read z false c.before.ranges.n c.if-n-lt0.false in rw (to_z-of_z {z = z} c.before.ranges.n) (whole z l, small z l c.before.ranges.n.sfits)
