-- Sizes and distances of floats, exact, over whole numbers. Definitions only.
use Rattle.std.specs.Prelude.{ℕ, ◌*◌, ◌^◌, ◌<◌, ◌≤◌, Bool, cond, ℤ, pos, ◌-ℤ◌, ◌*ℤ◌, neg_ℤ, unsigned_abs, Float}
use Rattle.std.specs.Float.{nan, inf, fin}
use Rattle.std.specs.Float.Ieee.{up, down}

-- x is a number below 2 ^ b in size
unfoldable pub Below : ℕ → Float → Type 0
Below b nan = ⊥
Below b (inf s) = ⊥
Below b (fin s m e) = m * up e < 2 ^ b * down e

-- ±a
abbrev pub with_sign : Bool → ℕ → ℤ
with_sign s a = cond s (neg_ℤ (pos a)) (pos a)

-- x is a number, and z over k is within 1 over 2 * k of it: |x * k - z| ≤ 1 / 2, with the denominator multiplied out
unfoldable pub WithinHalf : ℕ → ℤ → Float → Type 0
WithinHalf k z nan = ⊥
WithinHalf k z (inf s) = ⊥
WithinHalf k z (fin s m e) = unsigned_abs (with_sign s (m * up e * k) -ℤ z *ℤ pos (down e)) * 2 ≤ down e
