use mathlib.Core.Path.{◌≡◌, ap₂, ◌∙◌}
use Prim.Native.Nat.{◌-◌, ◌^◌, ◌≤◌, ◌<◌}
use native.Mathlib.Nat.{lt_of_le_of_lt, le_trans, add-le-add}
use native.Mathlib.Omega.{arith}
use lib.Dec.{lit<}
use lib.IntN.{ℤ, nat_abs, ◌*ℤ◌, ◌-ℤ◌}
use mir.Syntax.{w64}
use mir.Val.{SFits, to_z, of_z}
use mir.Facts.{to_z-of_z}
use Rattle.aim_tables.proofs.Whole.{sfits_abs, mul_abs, nat_abs_sub}
use Rattle.aim_tables.proofs.product.cross.Goals as goal

-- what the machine reads for a number, a product and the difference
module _ {a b : ℤ} (fa : SFits w64 a) (fb : SFits w64 b) (ha : nat_abs a ≤ 2 ^ 31) (hb : nat_abs b < 2 ^ 31) where
  size : nat_abs (a *ℤ b) ≤ 4611686016279904256
  size = mul_abs a b {m = 2 ^ 31} {n = 2 ^ 31 - 1} ha (omega arith)

  product_fits : SFits w64 (to_z w64 (of_z w64 a) *ℤ to_z w64 (of_z w64 b))
  product_fits = rw (to_z-of_z fa, to_z-of_z fb) (sfits_abs (a *ℤ b) (lt_of_le_of_lt size (lit< tt)))

  product : to_z w64 (of_z w64 (to_z w64 (of_z w64 a) *ℤ to_z w64 (of_z w64 b))) ≡ a *ℤ b
  product = to_z-of_z product_fits ∙ ap₂ (λ (p q : ℤ). p *ℤ q) (to_z-of_z fa) (to_z-of_z fb)

difference_fits : (p q : ℤ) → nat_abs p ≤ 4611686016279904256 → nat_abs q ≤ 4611686016279904256 → SFits w64 (p -ℤ q)
difference_fits p q h k = sfits_abs (p -ℤ q) (lt_of_le_of_lt (le_trans (nat_abs_sub p q) (add-le-add h k)) (lit< tt))

pub overflow_mul-result : goal.overflow_mul-result
overflow_mul-result c = product_fits c.ranges.a c.ranges.b c.requires.0 c.requires.1

pub overflow_mul-result-2 : goal.overflow_mul-result-2
overflow_mul-result-2 c = product_fits c.ranges.c c.ranges.d c.requires.2 c.requires.3

pub overflow_sub-result : goal.overflow_sub-result
overflow_sub-result c =
    rw (product c.ranges.a c.ranges.b c.requires.0 c.requires.1, product c.ranges.c c.ranges.d c.requires.2 c.requires.3)
    (difference_fits (c.args.a *ℤ c.args.b) (c.args.c *ℤ c.args.d) (size c.ranges.a c.ranges.b c.requires.0 c.requires.1) (size c.ranges.c c.ranges.d c.requires.2 c.requires.3))

pub returns : goal.returns
returns c =
    to_z-of_z (overflow_sub-result c)
    ∙ ap₂ (λ (p q : ℤ). p -ℤ q) (product c.ranges.a c.ranges.b c.requires.0 c.requires.1) (product c.ranges.c c.ranges.d c.requires.2 c.requires.3)
