-- Minus k and one less, as the code computes it at 32 bits. Assumes nothing.
use Prim.Native.Nat.{ℕ, zero, suc, ◌^◌, ◌<◌}
use mathlib.Core.Path.{◌≡◌, refl, sym, ap, ◌∙◌, subst}
use native.Mathlib.Omega.{arith}
use lib.IntN.{ℤ, pos, negsuc, neg_ℤ, ◌-ℤ◌}
use borrow.Author.Tests.{lt-ltb}
use mir.Syntax.{w32}
use mir.Val.{SFits, to_z, of_z}
use mir.ValLaws.{to_z_pos, to_z-of_z}

zero_less : (k : ℕ) → pos 0 -ℤ pos k ≡ neg_ℤ (pos k)
zero_less zero = refl
zero_less (suc k) = simp (lt-ltb 0 (suc k) (omega arith)) (ap negsuc (omega arith))

less_one : (k : ℕ) → neg_ℤ (pos k) -ℤ pos 1 ≡ negsuc k
less_one zero = refl
less_one (suc k) = ap negsuc (omega arith)

fits : (k : ℕ) → k < 2 ^ 31 → SFits w32 (neg_ℤ (pos k))
fits zero h = record { sfits = h }
fits (suc k) h = record { sfits = omega arith }

module _ (k : ℕ) (h : k < 2 ^ 31) where
  minus : pos 0 -ℤ to_z w32 k ≡ neg_ℤ (pos k)
  minus = ap (λ (z : ℤ). pos 0 -ℤ z) (to_z_pos w32 k h) ∙ zero_less k

  pub minus_fits : SFits w32 (pos 0 -ℤ to_z w32 k)
  minus_fits = subst (SFits w32) (sym minus) (fits k h)

  below : to_z w32 (of_z w32 (pos 0 -ℤ to_z w32 k)) -ℤ pos 1 ≡ negsuc k
  below = ap (λ (z : ℤ). z -ℤ pos 1) (to_z-of_z w32 _ minus_fits ∙ minus) ∙ less_one k

  pub below_fits : SFits w32 (to_z w32 (of_z w32 (pos 0 -ℤ to_z w32 k)) -ℤ pos 1)
  below_fits = subst (SFits w32) (sym below) (record { sfits = h })

  pub below_is : to_z w32 (of_z w32 (to_z w32 (of_z w32 (pos 0 -ℤ to_z w32 k)) -ℤ pos 1)) ≡ negsuc k
  below_is = to_z-of_z w32 _ below_fits ∙ below
