-- Rounding what rounding made changes nothing, for every value of the format: for whole numbers and for 256ths. Assumes nothing.
use Rattle.std.proofs.Common.{◌≡◌, ℕ, zero, suc, ◌-◌, ◌*◌, ◌^◌, ◌<◌, ◌≤◌, Bool, true, false, cond, T, ◌⊎◌, ℤ, pos, negsuc, neg_ℤ, nat_abs, sym, refl, ap, ◌∙◌, subst, inl, inr, zero-le, le_trans, le_of_eq, le_of_lt, mul-le-mul_right, one-mul, lt_of_not-le, arith, lit<, lit≤, pow_pos, pow_mono}
use native.Mathlib.Decide.{dec_le}
use lib.Ieee.{Float, nan, inf, fin, binary32, fits, of_int, mul, div, of_bits}
use lib.Ieee.Fits.{mul-fits}
use Rattle.num_convert.specs.Whole.{cut, signed, whole_of, round_to_i32}
use Rattle.num_convert.specs.Convert.{c256, i32_to_f32, quantize, to256ths, from256ths, quantize256ths}
use Rattle.num_convert.specs.Near.{with_sign}
use Rattle.base_binary32.proofs.Grid.{on_grid}
use Rattle.num_convert.proofs.Wholes.{Digits, few_digits, rounded_digits, digits-back, top_back, bottom_back}
use Rattle.num_convert.proofs.Scaled.{from256ths-back}
use Rattle.num_convert.proofs.Ranges.{at_value, signed_in, signed_out, far}

-- what rounding can make: a whole number that is exact as a float, or an end of the range
pub data Rounded (z : ℤ) : Type 0 where
  digits : Digits (nat_abs z) → nat_abs z < 2 ^ 31 → Rounded z
  top : z ≡ pos 2147483647 → Rounded z
  bottom : z ≡ negsuc 2147483647 → Rounded z

size_of : (s : Bool) (n : ℕ) → nat_abs (with_sign s n) ≡ n
size_of true zero = refl
size_of true (suc n) = refl
size_of false n = refl

in_range : (s : Bool) (n : ℕ) (z : ℤ) → z ≡ with_sign s n → Digits n → n < 2 ^ 31 → Rounded z
in_range s n z e d h = subst Rounded (sym e) (digits (subst Digits (sym (size_of s n)) d) (subst (λ (k : ℕ). k < 2 ^ 31) (sym (size_of s n)) h))

at_end : (s : Bool) (z : ℤ) → z ≡ cond s (neg_ℤ (pos (2 ^ 31))) (pos (2 ^ 31 - 1)) → Rounded z
at_end true z e = bottom e
at_end false z e = top e

-- from the 32nd digit on a value is out of the range
beyond : (q i : ℕ) → 0 < q → 180 < i → 2 ^ 31 * 2 ^ 149 ≤ q * 2 ^ i
beyond q i p h = le_trans (lit≤ {m = 2 ^ 31 * 2 ^ 149} {n = 2 ^ 180} tt) (le_trans (pow_mono (le_of_lt h)) (le_trans (le_of_eq (sym (one-mul (2 ^ i)))) (mul-le-mul_right (2 ^ i) p)))

rounded_units : (u : ℕ) (s : Bool) (q i : ℕ) (z : ℤ) → u < 2 → q < 2 ^ 24 → (0 < q) ⊎ (i ≡ 0) → z ≡ signed 31 s (cut u (q * 2 ^ i) (2 ^ 149)) → Rounded z
rounded_units u s q i z U h l e = go (dec_le i 180) (dec_le (2 ^ 31) (cut u (q * 2 ^ i) (2 ^ 149))) l
  where
    go : Dec (i ≤ 180) → Dec (2 ^ 31 ≤ cut u (q * 2 ^ i) (2 ^ 149)) → (0 < q) ⊎ (i ≡ 0) → Rounded z
    go d (yes b) l = at_end s z (e ∙ signed_out s (cut u (q * 2 ^ i) (2 ^ 149)) b)
    go (yes a) (no b) l = in_range s (cut u (q * 2 ^ i) (2 ^ 149)) z (e ∙ signed_in s (cut u (q * 2 ^ i) (2 ^ 149)) (lt_of_not-le b)) (rounded_digits u q i U h a) (lt_of_not-le b)
    go (no a) (no b) (inl p) = absurd (b (far u (q * 2 ^ i) (2 ^ 149) (pow_pos 149) (beyond q i p (lt_of_not-le a))))
    go (no a) (no b) (inr z) = absurd (a (le_trans (le_of_eq z) zero-le))

pub rounded : (u : ℕ) (x : Float) → u < 2 → T (fits binary32 x) → Rounded (whole_of 31 u x)
unfolding whole_of
rounded u nan U t = digits (few_digits 0 zero-le) (lit< tt)
rounded u (inf s) U t = at_end s (cond s (neg_ℤ (pos (2 ^ 31))) (pos (2 ^ 31 - 1))) refl
rounded u (fin s m g) U t = let y = on_grid s m g t in rounded_units u s y.q y.i (whole_of 31 u (fin s m g)) U y.small y.lead (at_value u (fin s m g) s (y.q * 2 ^ y.i) y.value)

-- ---- whole numbers
pub rounded_back : (u : ℕ) (z : ℤ) → u < 2 → Rounded z → whole_of 31 u (i32_to_f32 z) ≡ z
rounded_back u z U (digits d h) = digits-back u z U d h
rounded_back u z U (top e) = subst (λ (k : ℤ). whole_of 31 u (i32_to_f32 k) ≡ k) (sym e) (top_back u U)
rounded_back u z U (bottom e) = subst (λ (k : ℤ). whole_of 31 u (i32_to_f32 k) ≡ k) (sym e) (bottom_back u U)

pub round_again : (x : Float) → T (fits binary32 x) → round_to_i32 (i32_to_f32 (round_to_i32 x)) ≡ round_to_i32 x
round_again x t = rounded_back 1 (round_to_i32 x) (lit< tt) (rounded 1 x (lit< tt) t)

pub quantize_again : (x : Float) → T (fits binary32 x) → quantize (quantize x) ≡ quantize x
unfolding quantize
quantize_again x t = ap i32_to_f32 (round_again x t)

-- ---- 256ths
top_256ths : (u : ℕ) → u < 2 → whole_of 31 u (mul binary32 (from256ths (pos 2147483647)) c256) ≡ pos 2147483647
unfolding from256ths i32_to_f32 of_bits whole_of of_int mul div
top_256ths zero U = refl
top_256ths (suc zero) U = refl
top_256ths (suc (suc u)) U = absurd (omega (arith, U))

bottom_256ths : (u : ℕ) → u < 2 → whole_of 31 u (mul binary32 (from256ths (negsuc 2147483647)) c256) ≡ negsuc 2147483647
unfolding from256ths i32_to_f32 of_bits whole_of of_int mul div
bottom_256ths zero U = refl
bottom_256ths (suc zero) U = refl
bottom_256ths (suc (suc u)) U = absurd (omega (arith, U))

pub rounded_256ths_back : (u : ℕ) (z : ℤ) → u < 2 → Rounded z → whole_of 31 u (mul binary32 (from256ths z) c256) ≡ z
rounded_256ths_back u z U (digits d h) = from256ths-back z d h u U
rounded_256ths_back u z U (top e) = subst (λ (k : ℤ). whole_of 31 u (mul binary32 (from256ths k) c256) ≡ k) (sym e) (top_256ths u U)
rounded_256ths_back u z U (bottom e) = subst (λ (k : ℤ). whole_of 31 u (mul binary32 (from256ths k) c256) ≡ k) (sym e) (bottom_256ths u U)

-- either way
pub whole_256ths_again : (u : ℕ) (v : Float) → u < 2 → let z = whole_of 31 u (mul binary32 v c256) in whole_of 31 u (mul binary32 (from256ths z) c256) ≡ z
whole_256ths_again u v U = rounded_256ths_back u (whole_of 31 u (mul binary32 v c256)) U (rounded u (mul binary32 v c256) U (mul-fits binary32 v c256))

pub 256ths_again : (v : Float) → to256ths (from256ths (to256ths v)) ≡ to256ths v
unfolding to256ths
256ths_again v = whole_256ths_again 1 v (lit< tt)

pub quantize256ths_again : (v : Float) → quantize256ths (quantize256ths v) ≡ quantize256ths v
unfolding quantize256ths
quantize256ths_again v = ap from256ths (256ths_again v)
