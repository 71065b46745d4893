-- The sign of a whole number, as the machine tests it and as it is taken off. Assumes nothing.
use mathlib.Core.Path.{◌≡◌, refl, sym, ap, ◌∙◌}
use mathlib.Core.Bool.{true, false, true≢false}
use Prim.Native.Nat.{ℕ, ◌^◌, ◌≤◌, ◌<◌}
use native.Mathlib.Nat.{lt_of_le_of_lt}
use native.Mathlib.Omega.{arith}
use lib.Dec.{lit<}
use lib.IntN.{ℤ, pos, negsuc, nat_abs, ◌-ℤ◌}
use lib.Signed.{lt_z, nat_abs-le}
use mir.Syntax.{Width, w32, w64}
use mir.Val.{SFits, to_z, of_z}
use mir.Facts.{to_z-of_z}
use borrow.Author.Tests.{ltb-true}
use Rattle.aim_tables.proofs.Whole.{opposite, opposite_fits}
use Rattle.aim_rule.specs.Scan.{with_sign_of}

not_below : (y : ℕ) → y < 0 → ⊥
not_below y h = omega arith

pub small : (z : ℤ) → SFits w32 z → nat_abs z ≤ 2 ^ 31
small z f = nat_abs-le z f.sfits

pub away : (z : ℤ) → SFits w32 z → SFits w64 (pos 0 -ℤ z)
away z f = opposite_fits z (lt_of_le_of_lt (small z f) (lit< tt))

-- bits that are 0 are those of 0
pub bits_zero : {w : Width} (z : ℤ) → SFits w z → of_z w z ≡ 0 → to_z w 0 ≡ pos 0 → z ≡ pos 0
bits_zero {w} z f e o = sym (to_z-of_z f) ∙ ap (to_z w) e ∙ o

pub below_size : (y : ℤ) → lt_z y (pos 0) ≡ true → pos 0 -ℤ y ≡ pos (nat_abs y)
below_size (pos y) h = absurd (not_below y (ltb-true y 0 h))
below_size (negsuc y) h = opposite (negsuc y)

pub above_size : (y : ℤ) → lt_z y (pos 0) ≡ false → y ≡ pos (nat_abs y)
above_size (pos y) h = refl
above_size (negsuc y) h = absurd (true≢false h)

pub below_sign : (y : ℤ) (n : ℕ) → lt_z y (pos 0) ≡ true → pos 0 -ℤ pos n ≡ with_sign_of y n
below_sign (pos y) n h = absurd (not_below y (ltb-true y 0 h))
below_sign (negsuc y) n h = opposite (pos n)

pub above_sign : (y : ℤ) (n : ℕ) → lt_z y (pos 0) ≡ false → pos n ≡ with_sign_of y n
above_sign (pos y) n h = refl
above_sign (negsuc y) n h = absurd (true≢false h)

-- a height as the machine hands it on
pub height_held : (y r : ℤ) → SFits w32 y → SFits w64 r → r ≡ pos (nat_abs (to_z w32 (of_z w32 y))) → to_z w64 (of_z w64 r) ≡ pos (nat_abs y)
height_held y r f g e = to_z-of_z g ∙ e ∙ ap (λ (z : ℤ). pos (nat_abs z)) (to_z-of_z f)
