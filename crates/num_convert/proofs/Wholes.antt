-- Whole numbers as floats: those with at most 24 digits before their zeros are exact, and come back from either rounding. Assumes nothing.
use Rattle.std.proofs.Common.{◌≡◌, ℕ, zero, suc, ◌+◌, ◌-◌, ◌*◌, ◌^◌, ◌<◌, ◌≤◌, Bool, true, false, ◌⊎◌, ℤ, pos, negsuc, nat_abs, sym, refl, ap, ◌∙◌, inl, inr, zero-le, le_trans, lt_of_lt_of_le, le_of_suc-le-suc, lt_of_le_of_lt, le_of_lt, mul-le-mul_right, mul_assoc, div-lt_iff_lt-mul, eq-or-lt_of_le, mul-le-mul_left, mul-lt-mul_of_pos_right, mul-pos, lt_of_not-le, mul-one, arith, lit<, lit≤, pow_pos, pow_mono, pow-add, shl_lt}
use native.Mathlib.Decide.{dec_le}
use lib.Ieee.{Float, nan, inf, fin, binary32, up, down, round, of_int}
use lib.Ieee.Exact.{HasValue, round_exact}
use lib.Ieee.Fits.{down_pos}
use Rattle.num_convert.specs.Whole.{cut, signed, whole_of}
use Rattle.num_convert.specs.Convert.{i32_to_f32}
use Rattle.num_convert.specs.Near.{with_sign}
use Rattle.num_convert.proofs.Cut.{cut_same, cut_whole}
use Rattle.num_convert.proofs.Ranges.{signed_in}

-- z is q * 2 ^ j, with q below 2 ^ 24
pub record Digits (z : ℕ) : Type 0 where
  pub q : ℕ
  pub j : ℕ
  pub small : q < 2 ^ 24
  pub least : j ≤ 31
  pub is : z ≡ q * 2 ^ j

-- every number up to 2 ^ 24 is
pub few_digits : (z : ℕ) → z ≤ 2 ^ 24 → Digits z
few_digits z h = go (eq-or-lt_of_le h)
  where
    go : (z ≡ 2 ^ 24) ⊎ (z < 2 ^ 24) → Digits z
    go (inl e) = record { q = 1; j = 24; small = lit< tt; least = lit≤ tt; is = e }
    go (inr l) = record { q = z; j = 0; small = l; least = zero-le; is = sym (mul-one z) }

-- and so is what a value of the format is rounded or cut to
below_half : (q i : ℕ) → q < 2 ^ 24 → i < 149 → q * 2 ^ i < 2 ^ 23 * 2 ^ 149
below_half q i h l = lt_of_lt_of_le (mul-lt-mul_of_pos_right h (pow_pos i)) (le_trans (mul-le-mul_left (2 ^ 24) (pow_mono {j = 148} (omega arith))) (lit≤ tt))

cut_small : (u n l : ℕ) → u < 2 → 0 < l → n < 2 ^ 23 * l → cut u n l < 2 ^ 24
cut_small u n l U L h = let m = mul-le-mul_right l (le_of_suc-le-suc U) in (div-lt_iff_lt-mul (mul-pos L (lit< tt))).1 (omega (arith, m))

pub rounded_digits : (u q i : ℕ) → u < 2 → q < 2 ^ 24 → i ≤ 180 → Digits (cut u (q * 2 ^ i) (2 ^ 149))
rounded_digits u q i U h k = go (dec_le 149 i)
  where
    go : Dec (149 ≤ i) → Digits (cut u (q * 2 ^ i) (2 ^ 149))
    go (yes l) =
        let e : i ≡ i - 149 + 149 = omega arith in
        let p : q * 2 ^ i ≡ q * 2 ^ (i - 149) * 2 ^ 149 = ap (λ (x : ℕ). q * 2 ^ x) e ∙ ap (λ (x : ℕ). q * x) (pow-add 2 (i - 149) 149) ∙ sym (mul_assoc q (2 ^ (i - 149)) (2 ^ 149)) in
        record { q = q; j = i - 149; small = h; least = omega arith; is = ap (λ (x : ℕ). cut u x (2 ^ 149)) p ∙ cut_whole u (q * 2 ^ (i - 149)) (2 ^ 149) U (pow_pos 149) }
    go (no l) = few_digits (cut u (q * 2 ^ i) (2 ^ 149)) (le_of_lt (cut_small u (q * 2 ^ i) (2 ^ 149) U (pow_pos 149) (below_half q i h (lt_of_not-le l))))

-- ---- to a float
abbrev pub sgn : ℤ → Bool
sgn (pos n) = false
sgn (negsuc n) = true

pub own_sign : (z : ℤ) → with_sign (sgn z) (nat_abs z) ≡ z
own_sign (pos n) = refl
own_sign (negsuc n) = refl

pub digits_exact : (s : Bool) (z : ℕ) → Digits z → HasValue (round binary32 s z 1) s z 1
digits_exact s z d =
    let k : 24 + (d.j + 149) ≤ 276 = omega (arith, d.least) in
    round_exact binary32 s z 1 d.q (d.j + 149) (lit< tt) d.small (lt_of_lt_of_le (shl_lt 24 (d.j + 149) d.small) (le_trans (pow_mono k) (lit≤ tt)))
    (ap (λ (x : ℕ). x * 2 ^ 149) d.is ∙ mul_assoc d.q (2 ^ d.j) (2 ^ 149) ∙ ap (λ (x : ℕ). d.q * x) (sym (pow-add 2 d.j 149)) ∙ sym (mul-one (d.q * 2 ^ (d.j + 149))))

pub i32_exact : (z : ℤ) → Digits (nat_abs z) → HasValue (i32_to_f32 z) (sgn z) (nat_abs z) 1
unfolding i32_to_f32 of_int
i32_exact (pos n) d = digits_exact false n d
i32_exact (negsuc n) d = digits_exact true (suc n) d

-- ---- and back
pub whole_stays : (u : ℕ) (x : Float) (s : Bool) (z : ℕ) → u < 2 → z < 2 ^ 31 → HasValue x s z 1 → whole_of 31 u x ≡ with_sign s z
unfolding whole_of
whole_stays u nan s z U h v = absurd v
whole_stays u (inf t) s z U h v = absurd v
whole_stays u (fin t m g) s z U h v =
    ap (λ (b : Bool). signed 31 b (cut u (m * up g) (down g))) v.0
    ∙ ap (signed 31 s) (cut_same u (m * up g) (down g) z 1 (down_pos g) (lit< tt) v.1 ∙ ap (λ (k : ℕ). cut u k 1) (sym (mul-one z)) ∙ cut_whole u z 1 U (lit< tt))
    ∙ signed_in s z h

pub digits-back : (u : ℕ) (z : ℤ) → u < 2 → Digits (nat_abs z) → nat_abs z < 2 ^ 31 → whole_of 31 u (i32_to_f32 z) ≡ z
digits-back u z U d h = whole_stays u (i32_to_f32 z) (sgn z) (nat_abs z) U h (i32_exact z d) ∙ own_sign z

-- i32 to f32 and back, by either rounding: every whole number up to 2 ^ 24 in size
pub i32_back : (u : ℕ) (z : ℤ) → u < 2 → nat_abs z ≤ 2 ^ 24 → whole_of 31 u (i32_to_f32 z) ≡ z
i32_back u z U h = digits-back u z U (few_digits (nat_abs z) h) (lt_of_le_of_lt h (lit< tt))

-- and the two ends, the upper one by way of 2 ^ 31
pub top_back : (u : ℕ) → u < 2 → whole_of 31 u (i32_to_f32 (pos 2147483647)) ≡ pos 2147483647
unfolding whole_of i32_to_f32 of_int
top_back zero U = refl
top_back (suc zero) U = refl
top_back (suc (suc u)) U = absurd (omega (arith, U))

pub bottom_back : (u : ℕ) → u < 2 → whole_of 31 u (i32_to_f32 (negsuc 2147483647)) ≡ negsuc 2147483647
unfolding whole_of i32_to_f32 of_int
bottom_back zero U = refl
bottom_back (suc zero) U = refl
bottom_back (suc (suc u)) U = absurd (omega (arith, U))
