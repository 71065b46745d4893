-- 256ths: multiplying and dividing by 256.0 is exact. Assumes nothing.
use Rattle.std.proofs.Common.{◌≡◌, ℕ, ◌+◌, ◌*◌, ◌^◌, ◌<◌, ◌≤◌, Bool, true, false, ℤ, nat_abs, sym, refl, ap, ◌∙◌, subst, le_trans, lt_of_lt_of_le, mul_assoc, mul_comm, mul-pos, mul-one, mul_right_comm, mul_left_comm, arith, lit<, lit≤, pow_pos, pow_mono, pow-add, shl_lt}
use native.Mathlib.Nat.{eq_of_mul-eq-mul_right}
use lib.Ieee.{Float, nan, inf, fin, binary32, up, down, round, mul, div, unlike, of_bits}
use lib.Ieee.Exact.{HasValue, round_exact}
use lib.Ieee.Fits.{down_pos}
use Rattle.num_convert.specs.Whole.{cut, signed, whole_of}
use Rattle.num_convert.specs.Convert.{c256, i32_to_f32, from256ths}
use Rattle.num_convert.proofs.Wholes.{Digits, sgn, own_sign, i32_exact}
use Rattle.num_convert.proofs.Cut.{cut_whole}
use Rattle.num_convert.proofs.Ranges.{at_value, signed_in}

-- from one fraction to another of the same size
pub rescale : (x : Float) (s : Bool) (w l num den : ℕ) → 0 < l → num * l ≡ w * den → HasValue x s w l → HasValue x s num den
rescale nan s w l num den p h v = v
rescale (inf t) s w l num den p h v = v
rescale (fin t m e) s w l num den p h v = (
  v.0,
  eq_of_mul-eq-mul_right l p (m * up e * den) (num * down e)
      (mul_right_comm (m * up e) den l ∙ ap (λ (x : ℕ). x * den) v.1 ∙ mul_right_comm w (down e) den ∙ ap (λ (x : ℕ). x * down e) (sym h) ∙ mul_right_comm num l (down e)),
)

kept_sign : (t s : Bool) → t ≡ s → unlike t false ≡ s
kept_sign true s e = e
kept_sign false s e = e

in_format : (q j : ℕ) → q < 2 ^ 24 → j ≤ 252 → q * 2 ^ j < 2 ^ 277
in_format q j h k =
    let m : 24 + j ≤ 276 = omega arith in
    lt_of_lt_of_le (shl_lt 24 j h) (le_trans (pow_mono m) (lit≤ tt))

-- a fraction that is q * 2 ^ j units is rounded to just that
round_units : (t s : Bool) (a c q j : ℕ) → t ≡ s → 0 < c → q < 2 ^ 24 → j ≤ 252 → a * 2 ^ 149 ≡ q * 2 ^ j * c → HasValue (round binary32 (unlike t false) a c) s (q * 2 ^ j) (2 ^ 149)
round_units t s a c q j v C h k e =
    subst (λ (b : Bool). HasValue (round binary32 (unlike t false) a c) b (q * 2 ^ j) (2 ^ 149)) (kept_sign t s v)
    (rescale (round binary32 (unlike t false) a c) (unlike t false) a c (q * 2 ^ j) (2 ^ 149) C (sym e)
    (round_exact binary32 (unlike t false) a c q j C h (in_format q j h k) e))

-- ---- times 256
times : (a c p l : ℕ) → a * l ≡ p * c → a * 256 * l ≡ p * 256 * (c * 1)
times a c p l h = mul_right_comm a 256 l ∙ ap (λ (x : ℕ). x * 256) h ∙ mul_right_comm p c 256 ∙ ap (λ (x : ℕ). p * 256 * x) (sym (mul-one c))

pub eight_more : (q i : ℕ) → q * 2 ^ i * 256 ≡ q * 2 ^ (i + 8)
eight_more q i = mul_assoc q (2 ^ i) 256 ∙ ap (λ (x : ℕ). q * x) (sym (pow-add 2 i 8))

pub mul256 : (x : Float) (s : Bool) (q i : ℕ) → HasValue x s (q * 2 ^ i) (2 ^ 149) → q < 2 ^ 24 → i ≤ 244 → HasValue (mul binary32 x c256) s (q * 2 ^ (i + 8)) (2 ^ 149)
unfolding mul of_bits
mul256 nan s q i v h k = v
mul256 (inf t) s q i v h k = absurd v
mul256 (fin t m g) s q i v h k =
    round_units t s (m * up g * 256) (down g * 1) q (i + 8) v.0 (mul-pos (down_pos g) (lit< tt)) h (omega arith)
    (times (m * up g) (down g) (q * 2 ^ i) (2 ^ 149) v.1 ∙ ap (λ (x : ℕ). x * (down g * 1)) (eight_more q i))

-- ---- over 256
over : (a c q j l : ℕ) → l ≡ 2 ^ 141 * 256 → a * 1 ≡ q * 2 ^ j * c → a * 1 * l ≡ q * 2 ^ (j + 141) * (256 * c)
over a c q j l e h =
    ap (λ (x : ℕ). x * l) h ∙ ap (λ (x : ℕ). q * 2 ^ j * c * x) e ∙ swap (q * 2 ^ j) c (2 ^ 141) 256 ∙ ap (λ (x : ℕ). x * (256 * c)) (mul_assoc q (2 ^ j) (2 ^ 141) ∙ ap (λ (x : ℕ). q * x) (sym (pow-add 2 j 141)))
  where
    swap : (p c u v : ℕ) → p * c * (u * v) ≡ p * u * (v * c)
    swap p c u v = simp (mul_assoc, mul_comm, mul_left_comm)

div256 : (x : Float) (s : Bool) (q j : ℕ) → HasValue x s (q * 2 ^ j) 1 → q < 2 ^ 24 → j ≤ 100 → HasValue (div binary32 x c256) s (q * 2 ^ (j + 141)) (2 ^ 149)
unfolding div of_bits
div256 nan s q j v h k = v
div256 (inf t) s q j v h k = absurd v
div256 (fin t m g) s q j v h k =
    round_units t s (m * up g * 1) (256 * down g) q (j + 141) v.0 (mul-pos (lit< tt) (down_pos g)) h (omega arith)
    (over (m * up g) (down g) q j (2 ^ 149) refl v.1)

-- ---- z 256ths as a float, and back
module _ (z : ℤ) (d : Digits (nat_abs z)) (b : nat_abs z < 2 ^ 31) where
  from256ths_units : HasValue (from256ths z) (sgn z) (d.q * 2 ^ (d.j + 141)) (2 ^ 149)
  unfolding from256ths
  from256ths_units = div256 (i32_to_f32 z) (sgn z) d.q d.j (subst (λ (n : ℕ). HasValue (i32_to_f32 z) (sgn z) n 1) d.is (i32_exact z d)) d.small (omega (arith, d.least))

  -- by either rounding
  pub from256ths-back : (u : ℕ) → u < 2 → whole_of 31 u (mul binary32 (from256ths z) c256) ≡ z
  from256ths-back u U =
      let k : d.j + 141 ≤ 244 = omega (arith, d.least) in
      let v = mul256 (from256ths z) (sgn z) d.q (d.j + 141) from256ths_units d.small k in
      let e : d.j + 141 + 8 ≡ d.j + 149 = omega arith in
      let n : d.q * 2 ^ (d.j + 141 + 8) ≡ nat_abs z * 2 ^ 149 = ap (λ (x : ℕ). d.q * 2 ^ x) e ∙ ap (λ (x : ℕ). d.q * x) (pow-add 2 d.j 149) ∙ sym (mul_assoc d.q (2 ^ d.j) (2 ^ 149)) ∙ ap (λ (x : ℕ). x * 2 ^ 149) (sym d.is) in
      at_value u (mul binary32 (from256ths z) c256) (sgn z) (d.q * 2 ^ (d.j + 141 + 8)) v
      ∙ ap (λ (x : ℕ). signed 31 (sgn z) (cut u x (2 ^ 149))) n
      ∙ ap (signed 31 (sgn z)) (cut_whole u (nat_abs z) (2 ^ 149) U (pow_pos 149))
      ∙ signed_in (sgn z) (nat_abs z) b
      ∙ own_sign z
