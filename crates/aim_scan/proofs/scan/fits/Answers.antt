use mathlib.Core.Path.{◌≡◌}
use mathlib.Core.List.{List}
use Prim.Native.Nat.{ℕ, ◌^◌, ◌≤◌}
use native.Mathlib.Nat.{lt_of_le_of_lt}
use native.Mathlib.Omega.{arith}
use lib.Dec.{lit<}
use lib.IntN.{ℤ, pos, nat_abs, ◌*ℤ◌}
use lib.ListN.{get_or}
use mir.Syntax.{w32, w64}
use mir.Val.{SFits, to_z, of_z}
use mir.Facts.{to_z-of_z}
use Rattle.aim_tables.proofs.Whole.{sfits_abs, mul_abs, widened, wide}
use Rattle.aim_tables.specs.Tables.{cos_t, sin_t}
use Rattle.aim_tables.specs.Rules.{cos_at, sin_at}
use Rattle.aim_tables.proofs.Rules.{small}
use Rattle.aim_rule.specs.Angle.{side}
use Rattle.aim_scan.proofs.Difference.{le_difference}
use Rattle.aim_scan.proofs.scan.fits.Goals as goal

-- an entry of a lent table, as it is read, cast and multiplied
module _ (l t : List ℤ) (n : ℕ) (e : l ≡ t) (h : nat_abs (get_or t n (pos 0)) ≤ 2 ^ 30) where
  entry : SFits w32 (get_or t n (pos 0))
  entry = sfits_abs (get_or t n (pos 0)) (lt_of_le_of_lt h (lit< tt))

  cast : SFits w64 (to_z w32 (of_z w32 (get_or l n (pos 0))))
  cast = rw e (widened (get_or t n (pos 0)) entry)

  read : to_z w64 (of_z w64 (to_z w32 (of_z w32 (get_or l n (pos 0))))) ≡ get_or t n (pos 0)
  read = rw e (wide (get_or t n (pos 0)) entry)

  product : (z : ℤ) → nat_abs z ≤ 2 ^ 31 → SFits w64 (z *ℤ get_or t n (pos 0))
  product z k = sfits_abs (z *ℤ get_or t n (pos 0)) (lt_of_le_of_lt (mul_abs z (get_or t n (pos 0)) k h) (lit< tt))

pub overflow_cast-result : goal.overflow_cast-result
overflow_cast-result c = cast c.sines-sin.result.now sin_t c.args.n c.sines-sin.ensures (small c.args.n (omega arith)).1

pub overflow_mul-result : goal.overflow_mul-result
overflow_mul-result c =
    let z = (small c.args.n (omega arith)).1 in
    rw (to_z-of_z c.ranges.x, read c.sines-sin.result.now sin_t c.args.n c.sines-sin.ensures z) (product c.sines-sin.result.now sin_t c.args.n c.sines-sin.ensures z c.args.x c.requires.0.x_small)

pub overflow_cast-result-2 : goal.overflow_cast-result-2
overflow_cast-result-2 c = cast c.cosines-cos.result.now cos_t c.args.n c.cosines-cos.ensures (small c.args.n (omega arith)).0

pub overflow_mul-result-2 : goal.overflow_mul-result-2
overflow_mul-result-2 c =
    let z = (small c.args.n (omega arith)).0 in
    rw (to_z-of_z c.ranges.y, read c.cosines-cos.result.now cos_t c.args.n c.cosines-cos.ensures z) (product c.cosines-cos.result.now cos_t c.args.n c.cosines-cos.ensures z c.args.y c.requires.0.y_small)

pub returns : goal.returns
unfolding side
returns c =
    let z = small c.args.n (omega arith) in
    rw (
      to_z-of_z c.ranges.x,
      to_z-of_z c.ranges.y,
      read c.sines-sin.result.now sin_t c.args.n c.sines-sin.ensures z.1,
      read c.cosines-cos.result.now cos_t c.args.n c.cosines-cos.ensures z.0,
      to_z-of_z (product c.sines-sin.result.now sin_t c.args.n c.sines-sin.ensures z.1 c.args.x c.requires.0.x_small),
      to_z-of_z (product c.cosines-cos.result.now cos_t c.args.n c.cosines-cos.ensures z.0 c.args.y c.requires.0.y_small),
    )
    (le_difference (c.args.y *ℤ cos_at c.args.n) (c.args.x *ℤ sin_at c.args.n))
