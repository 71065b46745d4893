use Rattle.std.proofs.Common.{◌≡◌, ℕ, zero, suc, ◌<◌, true, false, ℤ, pos, negsuc, sym, refl, true≢false, arith, lit≤, to_z-of_z, ltb-true}
use lib.Signed.{lt_z}
use lib.Dec.{eqb-suc-zero}
use Rattle.aim_rule.specs.Scan.{upright_angle}
use Rattle.aim_rule.proofs.Quarters.{axis_right, axis_left}
use Rattle.aim_angle.proofs.angle.along_x.Goals as goal

not_below : (x : ℕ) → x < 0 → ⊥
not_below x h = omega arith

left : (x : ℤ) → lt_z x (pos 0) ≡ true → 804 ≡ upright_angle x 0
unfolding upright_angle
left (pos x) h = absurd (not_below x (ltb-true x 0 h))
left (negsuc x) h = rw (eqb-suc-zero x) (sym (axis_left x))

right : (x : ℤ) → lt_z x (pos 0) ≡ false → 0 ≡ upright_angle x 0
unfolding upright_angle
right (pos zero) h = refl
right (pos (suc x)) h = rw (eqb-suc-zero x) (sym (axis_right x))
right (negsuc x) h = absurd (true≢false h)

pub returns-then-x-lt0 : goal.returns-then-x-lt0
returns-then-x-lt0 c = (left c.before.args.x (rw (to_z-of_z c.before.ranges.x) at c.if-x-lt0.true), lit≤ tt)

pub returns-else-x-lt0 : goal.returns-else-x-lt0
returns-else-x-lt0 c = (right c.before.args.x (rw (to_z-of_z c.before.ranges.x) at c.if-x-lt0.false), lit≤ tt)
