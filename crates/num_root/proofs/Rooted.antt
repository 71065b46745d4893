-- The root of a value of binary32, by the whole part s of the root of a number n of 49 or 50 digits. Assumes nothing.
use mathlib.Core.Path.{◌≡◌, sym, ap, ◌∙◌, subst}
use mathlib.Core.Bool.{true, false, true≢false}
use Prim.Native.Nat.{ℕ, zero, suc, ◌+◌, ◌-◌, ◌*◌, ◌/◌, ◌%◌, ◌^◌, ◌≤◌, ◌<◌}
use native.Mathlib.Nat.{le_trans, le_of_eq, lt_irrefl, lt_of_lt_of_le, lt_of_le_of_lt, le_of_suc-le-suc, mul-pos, mul_assoc, mul_comm, mul_left_comm, mul_right_comm, zero-mul, mul-le-mul_left, mul-le-mul_right, mul-lt-mul_of_pos_right, eq_of_mul-eq-mul_right, pow-suc, mul-mod_left, mod-eq_of_lt}
use native.Mathlib.Omega.{arith}
use lib.Dec.{T, lit<, lit≤}
use lib.Pow.{pow_pos, pow-add, pow_mono, shl_lt}
use lib.Count.{count_leading_zeros, leading_top}
use lib.Ieee.{Float, nan, inf, fin, binary32, up, down, units, to_bits, of_bits, fits}
use lib.Ieee.Exact.{HasValue}
use lib.Ieee.Fits.{down_pos, round-fits, nan-fits}
use lib.Ieee.Bits.{of_bits-to_bits}
use Rattle.num_root.specs.Root.{isqrt, short, root_of, root}
use Rattle.num_root.proofs.Squares.{root_lt, small}
use Rattle.num_root.proofs.Floors.{Floor, Scaled, scaled, isqrt_floor}
use Rattle.num_root.proofs.Halves.{round-half}
use Rattle.base_binary32.proofs.Patterns.{units_pattern}
use Rattle.base_binary32.proofs.Grid.{pow_lt_back}

regroup : (s j c l : ℕ) → s * (j * (c * l * 2)) ≡ s * (j * c) * 2 * l
regroup s j c l = simp (mul_assoc, mul_comm, mul_left_comm)

-- a / c is n * (j * j) / l
square_is : (a c l n j : ℕ) → a * l ≡ n * (j * j) * c → a * c * l ≡ n * (j * c * (j * c))
square_is a c l n j h = mul_right_comm a c l ∙ ap (λ (x : ℕ). x * c) h ∙ simp (mul_assoc, mul_comm, mul_left_comm)

pub digits_ge : (n s : ℕ) → 2 ^ 48 ≤ n → Floor n s → 2 ^ 24 ≤ s
digits_ge n s h f = le_of_suc-le-suc (root_lt (2 ^ 24) (suc s) (lt_of_le_of_lt h f.1))

abbrev half : ℕ → ℕ
half s = s / 2 + s % 2

module _ (n j s : ℕ) (lo : 2 ^ 48 ≤ n) (hi : n < 2 ^ 50) (even : n % 2 ≡ 0) (fs : Floor n s) where
  rounded : (a c : ℕ) → 0 < c → a * 2 ^ 298 ≡ n * (2 ^ j * 2 ^ j) * c → root_of binary32 (a * c * (2 ^ 149 * 2 ^ 149)) (c * 2 ^ 149) ≡ units binary32 false (half s) (suc j)
  unfolding root_of
  rounded a c C h =
      let l = 2 ^ 149 in
      let v = a * c * (l * l) in
      let t = 2 ^ j * c in
      let v-is : v ≡ n * (t * t) = square_is a c (l * l) n (2 ^ j) h in
      let S = isqrt v in
      let b : Scaled s t S v = subst (λ (x : ℕ). Scaled s t S x) (sym v-is) (scaled n t s S (mul-pos (pow_pos j) C) even fs (subst (λ (x : ℕ). Floor x S) v-is (isqrt_floor v))) in
      round-half binary32 false (S * 2 + short S v) (c * l * 2) s j (mul-pos (mul-pos C (pow_pos 149)) (lit< tt)) (digits_ge n s lo fs) (small s n fs.0 hi)
      (le_trans (le_of_eq (regroup s (2 ^ j) c l)) (mul-le-mul_right l b.below))
      (lt_of_lt_of_le (mul-lt-mul_of_pos_right b.above (pow_pos 149)) (le_of_eq (sym (regroup (suc s) (2 ^ j) c l))))
      (λ q. b.even (eq_of_mul-eq-mul_right l (pow_pos 149) (s * t * 2) (S * 2 + short S v) (sym (regroup s (2 ^ j) c l) ∙ q)))

  n_pos : 0 < n * (2 ^ j * 2 ^ j)
  n_pos = mul-pos (lt_of_lt_of_le (lit< {m = 0} {n = 2 ^ 48} tt) lo) (mul-pos (pow_pos j) (pow_pos j))

  pub root_is : (x : Float) → HasValue x false (n * (2 ^ j * 2 ^ j)) (2 ^ 298) → root binary32 x ≡ units binary32 false (half s) (suc j)
  unfolding root
  root_is nan h = absurd h
  root_is (inf t) h = absurd h
  root_is (fin true m g) h = absurd (true≢false h.0)
  root_is (fin false zero g) h = absurd (lt_irrefl 0 (lt_of_lt_of_le (mul-pos n_pos (down_pos g)) (le_of_eq (sym h.1 ∙ ap (λ (x : ℕ). x * 2 ^ 298) (zero-mul (up g)) ∙ zero-mul (2 ^ 298)))))
  root_is (fin false (suc m) g) h = rounded (suc m * up g) (down g) (down_pos g) h.1

pub root_fits : (x : Float) → T (fits binary32 x) → T (fits binary32 (root binary32 x))
unfolding root root_of
root_fits nan t = t
root_fits (inf true) t = nan-fits binary32
root_fits (inf false) t = t
root_fits (fin s zero g) t = t
root_fits (fin true (suc m) g) t = nan-fits binary32
root_fits (fin false (suc m) g) t = let v = suc m * up g * down g * (2 ^ 149 * 2 ^ 149) in round-fits binary32 false (isqrt v * 2 + short (isqrt v) v) (down g * 2 ^ 149 * 2)

-- ---- the scaling of the code: w of 24 digits, t, and w * 2 ^ t as n * (2 ^ j * 2 ^ j)
abbrev pub wide : ℕ → ℕ → ℕ
wide w t = w * 2 ^ (25 + (t + 1) % 2)

abbrev pub half_exponent : ℕ → ℕ
half_exponent t = (t - 25 - (t + 1) % 2) / 2

pub record Shifted (w t : ℕ) : Type 0 where
  pub lo : 2 ^ 48 ≤ wide w t
  pub hi : wide w t < 2 ^ 50
  pub even : wide w t % 2 ≡ 0
  pub whole : wide w t % 2 ^ 64 ≡ wide w t
  pub square : w * 2 ^ t ≡ wide w t * (2 ^ half_exponent t * 2 ^ half_exponent t)

even_shl : (m k : ℕ) → 0 < k → m * 2 ^ k % 2 ≡ 0
even_shl m zero h = absurd (lt_irrefl 0 h)
even_shl m (suc k) h = ap (λ (x : ℕ). x % 2) (ap (λ (x : ℕ). m * x) (pow-suc 2 k) ∙ sym (mul_assoc m (2 ^ k) 2)) ∙ mul-mod_left (m * 2 ^ k) 2

pub shifted : (w t : ℕ) → 2 ^ 23 ≤ w → w < 2 ^ 24 → 26 ≤ t → Shifted w t
shifted w t a b c =
    let k = 25 + (t + 1) % 2 in
    let j = half_exponent t in
    let k-ge : 25 ≤ k = omega arith in
    let k-le : 24 + k ≤ 50 = omega arith in
    let e : t ≡ k + (j + j) = omega arith in
    let hi : w * 2 ^ k < 2 ^ 50 = lt_of_lt_of_le (shl_lt 24 k b) (pow_mono k-le) in
    record {
      lo = le_trans (lit≤ {m = 2 ^ 48} {n = 2 ^ 23 * 2 ^ 25} tt) (le_trans (mul-le-mul_right (2 ^ 25) a) (mul-le-mul_left w (pow_mono k-ge)));
      hi = hi;
      even = even_shl w k (omega arith);
      whole = mod-eq_of_lt (lt_of_lt_of_le hi (lit≤ tt));
      square = ap (λ (x : ℕ). w * 2 ^ x) e ∙ ap (λ (x : ℕ). w * x) (pow-add 2 k (j + j) ∙ ap (λ (x : ℕ). 2 ^ k * x) (pow-add 2 j j)) ∙ sym (mul_assoc w (2 ^ k) (2 ^ j * 2 ^ j));
    }

halves : (s : ℕ) → 2 ^ 24 ≤ s → s < 2 ^ 25 → (2 ^ 23 ≤ half s) × (half s ≤ 2 ^ 24)
halves s a b = omega arith

pattern : (j s : ℕ) → suc j * 8388608 + half s ≡ (j + 1) * 8388608 + (s + 1) / 2
pattern j s = omega arith

-- the pattern that the code makes is that of the root
pub root_pattern : (w t s : ℕ) → 2 ^ 23 ≤ w → w < 2 ^ 24 → 126 ≤ t → t < 403 → Floor (wide w t) s → (x : Float) → T (fits binary32 x) → HasValue x false (w * 2 ^ t) (2 ^ 298) → of_bits binary32 ((half_exponent t + 1) * 8388608 + (s + 1) / 2) ≡ root binary32 x
root_pattern w t s a b c d fs x f v =
    let h = shifted w t a b (omega arith) in
    let n = wide w t in
    let j = half_exponent t in
    let u : root binary32 x ≡ units binary32 false (half s) (suc j) = root_is n j s h.lo h.hi h.even fs x (subst (λ (y : ℕ). HasValue x false y (2 ^ 298)) h.square v) in
    let r = halves s (digits_ge n s h.lo fs) (small s n fs.0 h.hi) in
    ap (of_bits binary32) (sym (pattern j s) ∙ sym (ap (to_bits binary32) u ∙ units_pattern (half s) (suc j) r.0 r.1 (omega arith))) ∙ of_bits-to_bits binary32 (root binary32 x) (root_fits x f)

-- ---- a number m below 2 ^ 24, brought to 24 digits
abbrev pub lift : ℕ → ℕ
lift m = count_leading_zeros 32 m - 8

pub record Lifted (m : ℕ) : Type 0 where
  pub least : 8 ≤ count_leading_zeros 32 m
  pub most : lift m ≤ 23
  pub lo : 2 ^ 23 ≤ m * 2 ^ lift m
  pub hi : m * 2 ^ lift m < 2 ^ 24

pub lifted : (m : ℕ) → 0 < m → m < 2 ^ 24 → Lifted m
lifted m p h =
    let w = leading_top 32 m p (lt_of_lt_of_le h (lit≤ tt)) in
    let j = w.0 in
    let e : count_leading_zeros 32 m + suc j ≡ 32 = w.1 in
    let short : j < 24 = pow_lt_back j 24 (lt_of_le_of_lt w.2 h) in
    let a : 23 ≡ j + lift m = omega arith in
    let b : 24 ≡ suc j + lift m = omega arith in
    record {
      least = omega arith;
      most = omega arith;
      lo = le_trans (le_of_eq (ap (λ (x : ℕ). 2 ^ x) a ∙ pow-add 2 j (lift m))) (mul-le-mul_right (2 ^ lift m) w.2);
      hi = lt_of_lt_of_le (shl_lt (suc j) (lift m) w.3) (le_of_eq (ap (λ (x : ℕ). 2 ^ x) (sym b)));
    }

-- the units as 2 ^ -298
pub finer : (x : Float) (a b : ℕ) → a * 2 ^ 149 ≡ b → HasValue x false a (2 ^ 149) → HasValue x false b (2 ^ 298)
finer nan a b e v = absurd v
finer (inf s) a b e v = absurd v
finer (fin s m g) a b e v = (v.0, sym (mul_assoc (m * up g) (2 ^ 149) (2 ^ 149)) ∙ ap (λ (y : ℕ). y * 2 ^ 149) v.1 ∙ mul_right_comm a (down g) (2 ^ 149) ∙ ap (λ (y : ℕ). y * down g) e)

-- m * 2 ^ i units of 2 ^ -149, with z moved from the exponent to m
pub moved : (m i z : ℕ) → z ≤ 149 → m * 2 ^ i * 2 ^ 149 ≡ m * 2 ^ z * 2 ^ (i + (149 - z))
moved m i z h =
    let e : i + 149 ≡ z + (i + (149 - z)) = omega arith in
    mul_assoc m (2 ^ i) (2 ^ 149) ∙ ap (λ (x : ℕ). m * x) (sym (pow-add 2 i 149) ∙ ap (λ (x : ℕ). 2 ^ x) e ∙ pow-add 2 z (i + (149 - z))) ∙ sym (mul_assoc m (2 ^ z) (2 ^ (i + (149 - z))))
