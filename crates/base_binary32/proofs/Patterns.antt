-- The value of a pattern, in units of 2 ^ -149, and the pattern of a value. Assumes nothing.
use mathlib.Core.Path.{◌≡◌, sym, ap, ◌∙◌, subst}
use mathlib.Core.Logic.{inl, inr, ◌⊎◌}
use mathlib.Core.Bool.{Bool, true, false, not, cond, ◌&&◌, true≢false}
use Prim.Native.Nat.{ℕ, zero, suc, ◌+◌, ◌-◌, ◌*◌, ◌/◌, ◌%◌, ◌^◌, ◌≤◌, ◌<◌}
use native.Mathlib.Nat.{le_trans, le_of_eq, lt_of_lt_of_le, lt_of_le_of_lt, lt_of_not-le, not-le_of_lt, mul-le-mul_right, mul-lt-mul_of_pos_right, mul-div_cancel, mul_assoc, mul_comm, mul_right_comm, mul-one, zero-mul, zero-div, div-lt_iff_lt-mul, eq-or-lt_of_le, eq_of_mul-eq-mul_right, pow-suc}
use native.Mathlib.Omega.{arith}
use borrow.Author.Tests.{lt-leb}
use lib.Dec.{T, leb, ltb, eqb, ltb→lt, eqb→eq, not_T, lit<}
use lib.IntN.{ℤ}
use lib.Pow.{pow-add, pow_mono, pow_pos, shl_lt, shl-shr}
use lib.Ieee.{Float, nan, inf, fin, binary32, up, down, size, odd, units, fits, of_fields, of_bits, to_bits}
use lib.Ieee.Bits.{cond_no, of_bits-to_bits}
use lib.Ieee.Digits.{size-lt, size-le}
use lib.Ieee.Exact.{HasValue, odd_sign, units_val}
use lib.Ieee.Fits.{down_pos, kept-lt, and_r}

-- ---- from a pattern to its value

-- the units of the exponent's field e and the digits t
abbrev pub units_of : ℕ → ℕ → ℕ
units_of zero t = t
units_of (suc e) t = (t + 8388608) * 2 ^ e

split : (b : ℕ) → of_bits binary32 b ≡ of_fields binary32 (leb 2147483648 b) (b % 2147483648 / 8388608) (b % 2147483648 % 8388608)
unfolding of_bits
split b = ap (λ (t : ℕ). of_fields binary32 (leb 2147483648 b) (b % 2147483648 / 8388608) t) (omega arith)

-- the sign of a float's pattern, and the rest of it, which is the exponent's field above the digits
abbrev pub sign : Float → Bool
sign x = leb 2147483648 (to_bits binary32 x)

abbrev pub body : Float → ℕ
body x = to_bits binary32 x % 2147483648

pub fields_of : (x : Float) → T (fits binary32 x) → x ≡ of_fields binary32 (sign x) (body x / 8388608) (body x % 8388608)
fields_of x t = sym (of_bits-to_bits binary32 x t) ∙ split (to_bits binary32 x)

pub fields_value : (s : Bool) (e t : ℕ) → e < 255 → HasValue (of_fields binary32 s e t) s (units_of e t) (2 ^ 149)
unfolding of_fields
fields_value s zero t h = subst (λ (n : ℕ). HasValue (odd 24 s t 0 149) s n (2 ^ 149)) (mul-one t) (odd_sign 24 s t 0 149)
fields_value s (suc e) t h =
    let c : 8388608 + t ≡ t + 8388608 = omega arith in
    subst (λ (v : Float). HasValue v s ((t + 8388608) * 2 ^ e) (2 ^ 149))
    (sym (cond_no (eqb (suc e) 255) (cond (eqb t 0) (inf s) nan) (odd 24 s (8388608 + t) e 149) (not_T (eqb (suc e) 255) (λ (u : T (eqb (suc e) 255)). absurd (omega (arith, eqb→eq (suc e) 255 u))))))
    (subst (λ (n : ℕ). HasValue (odd 24 s (8388608 + t) e 149) s (n * 2 ^ e) (2 ^ 149)) c (odd_sign 24 s (8388608 + t) e 149))

-- a pattern below the infinity's
pub pattern_value : (p : ℕ) → p < 2139095040 → HasValue (of_bits binary32 p) false (units_of (p / 8388608) (p % 8388608)) (2 ^ 149)
pattern_value p h =
    let m : p % 2147483648 ≡ p = omega arith in
    let e : of_bits binary32 p ≡ of_fields binary32 false (p / 8388608) (p % 8388608) =
    split p ∙ ap (λ (s : Bool). of_fields binary32 s (p % 2147483648 / 8388608) (p % 2147483648 % 8388608)) (lt-leb 2147483648 p (omega arith)) ∙ ap (λ (q : ℕ). of_fields binary32 false (q / 8388608) (q % 8388608)) m in
    subst (λ (v : Float). HasValue v false (units_of (p / 8388608) (p % 8388608)) (2 ^ 149)) (sym e) (fields_value false (p / 8388608) (p % 8388608) (omega arith))

-- a value is one number of units
pub same_units : (x : Float) (s : Bool) (a b : ℕ) → HasValue x s a (2 ^ 149) → HasValue x s b (2 ^ 149) → a ≡ b
same_units nan s a b h k = absurd h
same_units (inf t) s a b h k = absurd h
same_units (fin t m g) s a b h k = eq_of_mul-eq-mul_right (down g) (down_pos g) a b (sym h.1 ∙ k.1)

-- ---- from a value to its pattern

abbrev drops : ℕ → ℕ
drops n = size n - 24

pub to_bits_of : (x : Float) (n : ℕ) → HasValue x false n (2 ^ 149) → to_bits binary32 x ≡ drops n * 8388608 + n / 2 ^ drops n
unfolding to_bits
to_bits_of nan n h = absurd h
to_bits_of (inf s) n h = absurd h
to_bits_of (fin true m e) n h = absurd (true≢false h.0)
to_bits_of (fin false m e) n h = ap (λ (k : ℕ). 0 + drops k * 8388608 + k / 2 ^ drops k) (ap (λ (k : ℕ). k / down e) h.1 ∙ mul-div_cancel n (down_pos e)) ∙ omega arith

-- q * 2 ^ k units, for a q of 24 digits, or 2 ^ 24
drops_at : (q k p : ℕ) → 2 ^ p ≤ q → q < 2 ^ suc p → size (q * 2 ^ k) ≡ suc p + k
drops_at q k p a b =
    let x : 2 ^ (p + k) ≤ q * 2 ^ k = le_trans (le_of_eq (pow-add 2 p k)) (mul-le-mul_right (2 ^ k) a) in
    let u : size (q * 2 ^ k) ≤ suc p + k = size-le (q * 2 ^ k) (suc p + k) (shl_lt (suc p) k b) in
    let l : p + k < size (q * 2 ^ k) = lt_of_not-le (λ (g : size (q * 2 ^ k) ≤ p + k). not-le_of_lt (size-lt (q * 2 ^ k)) (le_trans (pow_mono g) x)) in
    omega arith

pattern_at : (q k : ℕ) → 2 ^ 23 ≤ q → q ≤ 2 ^ 24 → drops (q * 2 ^ k) * 8388608 + q * 2 ^ k / 2 ^ drops (q * 2 ^ k) ≡ k * 8388608 + q
pattern_at q k a b = go (eq-or-lt_of_le b)
  where
    go : (q ≡ 2 ^ 24) ⊎ (q < 2 ^ 24) → drops (q * 2 ^ k) * 8388608 + q * 2 ^ k / 2 ^ drops (q * 2 ^ k) ≡ k * 8388608 + q
    go (inr l) =
        let d : drops (q * 2 ^ k) ≡ k = omega (arith, drops_at q k 23 a l) in
        ap (λ (x : ℕ). x * 8388608 + q * 2 ^ k / 2 ^ x) d ∙ ap (λ (x : ℕ). k * 8388608 + x) (shl-shr q k)
    go (inl e) =
        let d : drops (q * 2 ^ k) ≡ suc k = omega (arith, drops_at q k 24 (le_of_eq (sym e)) (lt_of_le_of_lt b (lit< tt))) in
        let f : q * 2 ^ k ≡ 2 ^ 23 * 2 ^ suc k = ap (λ (x : ℕ). x * 2 ^ k) e ∙ mul_assoc (2 ^ 23) 2 (2 ^ k) ∙ ap (λ (x : ℕ). 2 ^ 23 * x) (mul_comm 2 (2 ^ k) ∙ sym (pow-suc 2 k)) in
        ap (λ (x : ℕ). x * 8388608 + q * 2 ^ k / 2 ^ x) d ∙ ap (λ (x : ℕ). suc k * 8388608 + x) (ap (λ (x : ℕ). x / 2 ^ suc k) f ∙ shl-shr (2 ^ 23) (suc k)) ∙ omega arith

pub units_pattern : (q k : ℕ) → 2 ^ 23 ≤ q → q ≤ 2 ^ 24 → k ≤ 252 → to_bits binary32 (units binary32 false q k) ≡ k * 8388608 + q
units_pattern q k a b c =
    let most : 24 + k ≤ 276 = omega arith in
    to_bits_of (units binary32 false q k) (q * 2 ^ k) (units_val binary32 false q k (lt_of_le_of_lt (mul-le-mul_right (2 ^ k) b) (lt_of_le_of_lt (le_of_eq (sym (pow-add 2 24 k))) (lt_of_le_of_lt (pow_mono most) (lit< {m = 2 ^ 276} {n = 2 ^ 277} tt)))))
    ∙ pattern_at q k a b

-- a finite value that is not negative has a pattern below the infinity's
finite_bound : (m : ℕ) (g : ℤ) → T (fits binary32 (fin false m g)) → m * up g * 2 ^ 149 / down g < 2 ^ 277
unfolding fits
finite_bound zero g t = lt_of_le_of_lt (le_of_eq (ap (λ (x : ℕ). x / down g) (ap (λ (x : ℕ). x * 2 ^ 149) (zero-mul (up g)) ∙ zero-mul (2 ^ 149)) ∙ zero-div (down g))) (pow_pos 277)
finite_bound (suc m) g t =
    (div-lt_iff_lt-mul (down_pos g)).1
    (lt_of_lt_of_le (mul-lt-mul_of_pos_right (ltb→lt (suc m * up g) (2 ^ 128 * down g) (and_r (eqb (suc m % 2) 1 && ltb (suc m) (2 ^ 24) && leb (down g) (2 ^ 149)) (ltb (suc m * up g) (2 ^ 128 * down g)) t)) (pow_pos 149))
    (le_of_eq (mul_right_comm (2 ^ 128) (down g) (2 ^ 149))))

pub finite_pattern : (m : ℕ) (g : ℤ) → T (fits binary32 (fin false m g)) → to_bits binary32 (fin false m g) < 2139095040
unfolding to_bits
finite_pattern m g t =
    let n = m * up g * 2 ^ 149 / down g in
    let k : size n ≤ 277 = size-le n 277 (finite_bound m g t) in
    let q : n / 2 ^ (size n - 24) < 2 ^ 24 = kept-lt 24 n in
    omega arith
