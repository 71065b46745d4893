-- A value cut to a whole number: by the exponent's field, and over another denominator. Assumes nothing.
use Rattle.std.proofs.Common.{◌≡◌, ℕ, zero, suc, ◌+◌, ◌-◌, ◌*◌, ◌/◌, ◌^◌, ◌<◌, ◌≤◌, sym, ap, ◌∙◌, le_trans, lt_of_lt_of_le, le_of_suc-le-suc, add-zero, mul-le-mul_right, mul_assoc, mul_comm, add-mul, mul-le-mul_left, mul-lt-mul_of_pos_right, mul-pos, zero-mul, mul-add, mul_right_comm, mul_left_comm, arith, lit<, lit≤, pow_pos, pow_mono, pow-add, shl_lt}
use native.Mathlib.Nat.{mul-mul-mul_comm, mul-div-mul_left, mul-div-mul_right, div-div-eq-div-mul, add-mul-div_right, div-eq_of_lt}
use lib.Ieee.Nearest.{div_same}
use Rattle.num_convert.specs.Whole.{cut}
use Rattle.base_binary32.proofs.Patterns.{units_of}

-- ---- by the exponent's field
pub cut_low : (u e t : ℕ) → u < 2 → t < 8388608 → e < 126 → cut u (units_of e t) (2 ^ 149) ≡ 0
cut_low u e t U h k = div-eq_of_lt (bound (units_of e t) (2 ^ 149) (lt_of_lt_of_le (mul-lt-mul_of_pos_right (small e k) (lit< {m = 0} {n = 2} tt)) (lit≤ tt)))
  where
    bound : (n l : ℕ) → n * 2 < l → n * 2 + u * l < l * 2
    bound n l g = omega (arith, mul-le-mul_right l (le_of_suc-le-suc U))

    small : (e : ℕ) → e < 126 → units_of e t < 2 ^ 148
    small zero l = lt_of_lt_of_le h (lit≤ tt)
    small (suc e) l =
        let m : t + 8388608 < 2 ^ 24 = omega arith in
        lt_of_lt_of_le (mul-lt-mul_of_pos_right m (pow_pos e)) (le_trans (mul-le-mul_left (2 ^ 24) (pow_mono {j = 124} (omega arith))) (lit≤ tt))

middle : (u m x k : ℕ) → cut u (m * 2 ^ x) (2 ^ x * 2 ^ k) ≡ (m * 2 / 2 ^ k + u) / 2
middle u m x k = ap (λ (a : ℕ). a / (2 ^ x * 2 ^ k * 2)) (top m u (2 ^ x) (2 ^ k)) ∙ ap (λ (b : ℕ). 2 ^ x * (m * 2 + u * 2 ^ k) / b) (mul_assoc (2 ^ x) (2 ^ k) 2) ∙ mul-div-mul_left (m * 2 + u * 2 ^ k) (2 ^ k * 2) (pow_pos x) ∙ sym (div-div-eq-div-mul (m * 2 + u * 2 ^ k) (2 ^ k) 2) ∙ ap (λ (a : ℕ). a / 2) (add-mul-div_right (m * 2) u (pow_pos k))
  where
    top : (m u x k : ℕ) → m * x * 2 + u * (x * k) ≡ x * (m * 2 + u * k)
    top m u x k = sym (mul-add x (m * 2) (u * k) ∙ ap (λ (a : ℕ). a + x * (u * k)) (mul_left_comm x m 2 ∙ sym (mul_assoc m x 2)) ∙ ap (λ (a : ℕ). m * x * 2 + a) (mul_left_comm x u k))

pub cut_middle : (u e t : ℕ) → 126 ≤ e → e ≤ 150 → cut u (units_of e t) (2 ^ 149) ≡ ((t + 8388608) * 2 / 2 ^ (150 - e) + u) / 2
cut_middle u zero t a b = absurd (omega (arith, a))
cut_middle u (suc e) t a b =
    let i : 149 ≡ e + (150 - suc e) = omega arith in
    let l : 2 ^ 149 ≡ 2 ^ e * 2 ^ (150 - suc e) = ap (λ (k : ℕ). 2 ^ k) i ∙ pow-add 2 e (150 - suc e) in
    ap (λ (k : ℕ). cut u ((t + 8388608) * 2 ^ e) k) l ∙ middle u (t + 8388608) e (150 - suc e)

pub cut_whole : (u z l : ℕ) → u < 2 → 0 < l → cut u (z * l) l ≡ z
cut_whole u z l U L = ap (λ (a : ℕ). a / (l * 2)) top ∙ mul-div-mul_left (z * 2 + u) 2 L ∙ omega arith
  where
    top : z * l * 2 + u * l ≡ l * (z * 2 + u)
    top = sym (mul-add l (z * 2) u ∙ ap (λ (a : ℕ). a + l * u) (mul_left_comm l z 2 ∙ sym (mul_assoc z l 2)) ∙ ap (λ (a : ℕ). z * l * 2 + a) (mul_comm l u))

units_high : (e t : ℕ) → 150 < e → units_of e t ≡ (t + 8388608) * 2 ^ (e - 150) * 2 ^ 149
units_high zero t a = absurd (omega (arith, a))
units_high (suc e) t a = ap (λ (k : ℕ). (t + 8388608) * 2 ^ k) (omega arith) ∙ ap (λ (k : ℕ). (t + 8388608) * k) (pow-add 2 (suc e - 150) 149) ∙ sym (mul_assoc (t + 8388608) (2 ^ (suc e - 150)) (2 ^ 149))

pub cut_high : (u e t : ℕ) → u < 2 → 150 < e → cut u (units_of e t) (2 ^ 149) ≡ (t + 8388608) * 2 ^ (e - 150)
cut_high u e t U a = ap (λ (n : ℕ). cut u n (2 ^ 149)) (units_high e t a) ∙ cut_whole u ((t + 8388608) * 2 ^ (e - 150)) (2 ^ 149) U (pow_pos 149)

pub high_lt : (e t : ℕ) → t < 8388608 → 150 < e → e < 158 → (t + 8388608) * 2 ^ (e - 150) < 2 ^ 31
high_lt e t h a b =
    let m : t + 8388608 < 2 ^ 24 = omega arith in
    let k : 24 + (e - 150) ≤ 31 = omega arith in
    lt_of_lt_of_le (shl_lt 24 (e - 150) m) (pow_mono k)

-- ---- the same fraction over another denominator
pub cut_same : (u a c n l : ℕ) → 0 < c → 0 < l → a * l ≡ n * c → cut u a c ≡ cut u n l
cut_same u a c n l C L h = div_same (a * 2 + u * c) (c * 2) (n * 2 + u * l) (l * 2) (mul-pos C (lit< tt)) (mul-pos L (lit< tt)) cross
  where
    one : a * 2 * (l * 2) ≡ n * 2 * (c * 2)
    one = mul-mul-mul_comm a 2 l 2 ∙ ap (λ (k : ℕ). k * 4) h ∙ sym (mul-mul-mul_comm n 2 c 2)

    two : u * c * (l * 2) ≡ u * l * (c * 2)
    two = sym (mul_assoc (u * c) l 2) ∙ ap (λ (k : ℕ). k * 2) (mul_right_comm u c l) ∙ mul_assoc (u * l) c 2

    cross : (a * 2 + u * c) * (l * 2) ≡ (n * 2 + u * l) * (c * 2)
    cross = add-mul (a * 2) (u * c) (l * 2) ∙ ap (λ (k : ℕ). k + u * c * (l * 2)) one ∙ ap (λ (k : ℕ). n * 2 * (c * 2) + k) two ∙ sym (add-mul (n * 2) (u * l) (c * 2))

-- ---- with no half added it is the quotient
pub cut_zero : (a c : ℕ) → cut 0 a c ≡ a / c
cut_zero a c = ap (λ (k : ℕ). k / (c * 2)) (ap (λ (k : ℕ). a * 2 + k) (zero-mul c) ∙ add-zero (a * 2)) ∙ mul-div-mul_right a c (lit< {m = 0} {n = 2} tt)
