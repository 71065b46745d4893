-- A float that was made of an i32, or of an i32 over 256, is what its own rounding gives back, by either rounding. Assumes nothing.
use Rattle.std.proofs.Common.{◌≡◌, ℕ, zero, suc, ◌+◌, ◌-◌, ◌*◌, ◌/◌, ◌%◌, ◌^◌, ◌<◌, ◌≤◌, Bool, true, false, ◌⊎◌, ℤ, pos, negsuc, sym, refl, ap, ◌∙◌, subst, inl, inr, le_trans, le_of_eq, lt_of_lt_of_le, lt_of_le_of_lt, le_of_lt, lt_irrefl, mul-le-mul_right, zero-lt-suc, mul_assoc, eq-or-lt_of_le, mul-le-mul_left, mul-pos, one-mul, lt_of_not-le, le-div_iff_mul-le, mul-one, div-one, arith, lit<, lit≤, pow_pos, pow_mono, pow-add, shl_lt}
use Prim.Native.Nat.{compare}
use native.Mathlib.Decide.{dec_le}
use lib.Signed.{mag}
use lib.Ieee.{Float, binary32, size, nearest, units, round, of_int, mul, div}
use lib.Ieee.Digits.{size-lt, size-le, size_reaches}
use lib.Ieee.Exact.{HasValue, units_val}
use lib.Ieee.Fits.{round_is, nearest-le, kept-lt, of_int-fits}
use lib.Ieee.Nearest.{nearest-ge}
use lib.Ieee.Back.{whole_unique}
use Rattle.num_convert.specs.Whole.{whole_of}
use Rattle.num_convert.specs.Convert.{c256, i32_to_f32, from256ths}
use Rattle.num_convert.proofs.Wholes.{Digits, few_digits, digits_exact, i32_exact}
use Rattle.num_convert.proofs.Scaled.{rescale}
use Rattle.num_convert.proofs.Again.{Rounded, top, bottom, digits, rounded_back, rounded_256ths_back}

-- ---- what n is rounded to: a whole number, exact as a float
record Nearest (s : Bool) (n : ℕ) : Type 0 where
  m : ℕ
  has : Digits m
  most : m ≤ 2 ^ 31
  lead : 0 < n → 0 < m
  value : HasValue (round binary32 s n 1) s m 1

exact : (s : Bool) (n : ℕ) → n ≤ 2 ^ 31 → Digits n → Nearest s n
exact s n h d = record { m = n; has = d; most = h; lead = λ l. l; value = digits_exact s n d }

kept-digits : (q i : ℕ) → q ≤ 2 ^ 24 → i ≤ 7 → Digits (q * 2 ^ i)
kept-digits q i h k = go (eq-or-lt_of_le h)
  where
    go : (q ≡ 2 ^ 24) ⊎ (q < 2 ^ 24) → Digits (q * 2 ^ i)
    go (inl e) = record { q = 1; j = 24 + i; small = lit< tt; least = omega arith; is = ap (λ (x : ℕ). x * 2 ^ i) e ∙ sym (pow-add 2 24 i) ∙ sym (one-mul (2 ^ (24 + i))) }
    go (inr l) = record { q = q; j = i; small = l; least = omega arith; is = refl }

-- n has more digits than the format keeps: all that are dropped stand before the point
module _ (s : Bool) (n : ℕ) (over : 2 ^ 24 < n) (under : n < 2 ^ 31) where
  abbrev w : ℕ
  w = n * 2 ^ 149

  size_over : 173 < size w
  size_over = lt_of_not-le (λ (h : size w ≤ 173). lt_irrefl w (lt_of_lt_of_le (size-lt w) (le_trans (pow_mono h) (le_trans (le_of_eq (pow-add 2 24 149)) (mul-le-mul_right (2 ^ 149) (le_of_lt over))))))

  dropped : Nearest s n
  dropped =
      let k = size (w / 1) - 24 in
      let i = k - 149 in
      let v = w / (1 * 2 ^ k) in
      let o = compare (w % (1 * 2 ^ k) * 2) (1 * 2 ^ k) in
      let q = nearest v o in
      let z : size (w / 1) ≡ size w = ap size (div-one w) in
      let a : 173 < size w = size_over in
      let b : size w ≤ 180 = size-le w 180 (shl_lt 31 149 under) in
      let c : k ≡ i + 149 = omega arith in
      let d : v ≡ w / 2 ^ (size w - 24) = ap (λ (x : ℕ). w / x) (one-mul (2 ^ k)) ∙ ap (λ (x : ℕ). w / 2 ^ (x - 24)) z in
      let e : v < 2 ^ 24 = lt_of_le_of_lt (le_of_eq d) (kept-lt 24 w) in
      let f : q ≤ 2 ^ 24 = le_trans (nearest-le v o) e in
      let g : 0 < q = lt_of_lt_of_le ((le-div_iff_mul-le (mul-pos (lit< {m = 0} {n = 1} tt) (pow_pos k))).1 (le_trans (le_of_eq (one-mul (1 * 2 ^ k) ∙ one-mul (2 ^ k))) (size_reaches w k (omega arith)))) (nearest-ge v o) in
      let p : q * 2 ^ i * 2 ^ 149 ≡ q * 2 ^ k * 1 = mul_assoc q (2 ^ i) (2 ^ 149) ∙ ap (λ (x : ℕ). q * x) (sym (pow-add 2 i 149) ∙ ap (λ (x : ℕ). 2 ^ x) (sym c)) ∙ sym (mul-one (q * 2 ^ k)) in
      let r : q * 2 ^ i ≤ 2 ^ 31 = le_trans (mul-le-mul_right (2 ^ i) f) (le_trans (mul-le-mul_left (2 ^ 24) (pow_mono {j = 7} (omega arith))) (lit≤ tt)) in
      let t : q * 2 ^ k < 2 ^ 277 = lt_of_le_of_lt (mul-le-mul_right (2 ^ k) f) (lt_of_le_of_lt (mul-le-mul_left (2 ^ 24) (pow_mono {j = 156} (omega arith))) (lit< tt)) in
      record {
        m = q * 2 ^ i;
        has = kept-digits q i f (omega arith);
        most = r;
        lead = λ h. mul-pos g (pow_pos i);
        value = subst (λ (x : Float). HasValue x s (q * 2 ^ i) 1) (sym (round_is binary32 s n 1)) (rescale (units binary32 s q k) s (q * 2 ^ k) (2 ^ 149) (q * 2 ^ i) 1 (pow_pos 149) p (units_val binary32 s q k t));
      }

nearest_whole : (s : Bool) (n : ℕ) → n ≤ 2 ^ 31 → Nearest s n
nearest_whole s n h = go (dec_le n (2 ^ 24)) (eq-or-lt_of_le h)
  where
    go : Dec (n ≤ 2 ^ 24) → (n ≡ 2 ^ 31) ⊎ (n < 2 ^ 31) → Nearest s n
    go (yes a) b = exact s n h (few_digits n a)
    go (no a) (inl e) = exact s n h (record { q = 1; j = 31; small = lit< tt; least = lit≤ tt; is = e })
    go (no a) (inr l) = dropped s n (lt_of_not-le a) l

-- ---- so a float of an i32 is one of a number that comes back
pub record Same (z : ℤ) : Type 0 where
  pub stands : ℤ
  pub back : Rounded stands
  pub float : i32_to_f32 stands ≡ i32_to_f32 z

same_value : (s : Bool) (m : ℕ) (z y : ℤ) → HasValue (i32_to_f32 z) s m 1 → HasValue (i32_to_f32 y) s m 1 → i32_to_f32 y ≡ i32_to_f32 z
unfolding i32_to_f32
same_value s m z y a b = whole_unique binary32 (of_int binary32 y) (of_int binary32 z) s m (of_int-fits binary32 y) (of_int-fits binary32 z) b a

at_top : HasValue (i32_to_f32 (pos 2147483647)) false (2 ^ 31) 1
unfolding i32_to_f32 of_int
at_top = (refl, refl)

at_bottom : HasValue (i32_to_f32 (negsuc 2147483647)) true (2 ^ 31) 1
unfolding i32_to_f32 of_int
at_bottom = (refl, refl)

above : (n : ℕ) (x : Nearest false n) → HasValue (i32_to_f32 (pos n)) false x.m 1
unfolding i32_to_f32 of_int
above n x = x.value

below : (n : ℕ) (x : Nearest true (suc n)) → HasValue (i32_to_f32 (negsuc n)) true x.m 1
unfolding i32_to_f32 of_int
below n x = x.value

pub same : (z : ℤ) → mag z < 2 ^ 31 → Same z
same (pos n) h = go x.m x.has (eq-or-lt_of_le x.most) (above n x)
  where
    x : Nearest false n
    x = nearest_whole false n (le_of_lt h)

    go : (m : ℕ) → Digits m → (m ≡ 2 ^ 31) ⊎ (m < 2 ^ 31) → HasValue (i32_to_f32 (pos n)) false m 1 → Same (pos n)
    go m d (inl e) v = record { stands = pos 2147483647; back = top refl; float = same_value false (2 ^ 31) (pos n) (pos 2147483647) (subst (λ (k : ℕ). HasValue (i32_to_f32 (pos n)) false k 1) e v) at_top }
    go m d (inr l) v = record { stands = pos m; back = digits d l; float = same_value false m (pos n) (pos m) v (i32_exact (pos m) d) }
same (negsuc n) h = go x.m x.has (x.lead (zero-lt-suc n)) (eq-or-lt_of_le x.most) (below n x)
  where
    x : Nearest true (suc n)
    x = nearest_whole true (suc n) h

    go : (m : ℕ) → Digits m → 0 < m → (m ≡ 2 ^ 31) ⊎ (m < 2 ^ 31) → HasValue (i32_to_f32 (negsuc n)) true m 1 → Same (negsuc n)
    go zero d p c v = absurd (lt_irrefl 0 p)
    go (suc m) d p (inl e) v = record { stands = negsuc 2147483647; back = bottom refl; float = same_value true (2 ^ 31) (negsuc n) (negsuc 2147483647) (subst (λ (k : ℕ). HasValue (i32_to_f32 (negsuc n)) true k 1) e v) at_bottom }
    go (suc m) d p (inr l) v = record { stands = negsuc m; back = digits d l; float = same_value true (suc m) (negsuc n) (negsuc m) v (i32_exact (negsuc m) d) }

-- ---- the laws: for every i32, and for either rounding
pub i32_whole : (u : ℕ) (z : ℤ) → u < 2 → mag z < 2 ^ 31 → i32_to_f32 (whole_of 31 u (i32_to_f32 z)) ≡ i32_to_f32 z
i32_whole u z U h =
    let y = same z h in
    ap (λ (x : Float). i32_to_f32 (whole_of 31 u x)) (sym y.float) ∙ ap i32_to_f32 (rounded_back u y.stands U y.back) ∙ y.float

pub i32_256ths : (u : ℕ) (z : ℤ) → u < 2 → mag z < 2 ^ 31 → from256ths (whole_of 31 u (mul binary32 (from256ths z) c256)) ≡ from256ths z
unfolding from256ths
i32_256ths u z U h =
    let y = same z h in
    let e : from256ths y.stands ≡ from256ths z = ap (λ (x : Float). div binary32 x c256) y.float in
    ap (λ (x : Float). from256ths (whole_of 31 u (mul binary32 x c256))) (sym e) ∙ ap from256ths (rounded_256ths_back u y.stands U y.back) ∙ e
