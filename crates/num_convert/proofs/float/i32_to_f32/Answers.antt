use Rattle.std.proofs.Common.{◌≡◌, ◌^◌, ◌≤◌, true, T, ℤ, pos, negsuc, sym, ap, ◌∙◌, subst, arith, to_z-of_z, lt-ltb, leb-true}
use lib.Ieee.{binary32, of_int, in_float}
use lib.Signed.{le_z}
use Rattle.num_convert.specs.Convert.{i32_to_f32}
use Rattle.num_convert.proofs.float.i32_to_f32.Goals as goal

-- up to 2 ^ 24 the format has every whole number
exact : (z : ℤ) → le_z (negsuc 16777215) z ≡ true → le_z z (pos 16777216) ≡ true → T (in_float binary32 z)
unfolding in_float
exact (pos k) a b = subst T (sym b) tt
exact (negsuc k) a b = let h : k ≤ 16777215 = leb-true k 16777215 a in subst T (sym (lt-ltb k (2 ^ 24) (omega arith))) tt

pub int_to_float-result : goal.int_to_float-result
int_to_float-result c = let f = c.before.before.before.ranges.n in rw (to_z-of_z f) (exact c.before.before.before.args.n (rw (to_z-of_z f) at c.before.before.if-n-geminus16777216.true) (rw (to_z-of_z f) at c.before.if-n-le16777216.true))

pub returns-then-n-le16777216 : goal.returns-then-n-le16777216
unfolding i32_to_f32
returns-then-n-le16777216 c = ap (of_int binary32) (to_z-of_z c.before.before.before.ranges.n)

pub returns : goal.returns
unfolding i32_to_f32
returns c = c.nearest_i32_to_f32.ensures ∙ ap (of_int binary32) (to_z-of_z c.before.before.ranges.n)
