-- `whole_of` of a value, by its pattern. Assumes nothing.
use Rattle.std.proofs.Common.{◌≡◌, ℕ, zero, suc, ◌+◌, ◌-◌, ◌*◌, ◌/◌, ◌%◌, ◌^◌, ◌<◌, ◌≤◌, min, Bool, true, false, cond, not, T, eqb, ◌⊎◌, ℤ, pos, ◌-ℤ◌, neg_ℤ, sym, refl, ap, ◌∙◌, subst, inl, inr, le_trans, le_of_eq, le-add_right, mul-le-mul_right, mul_assoc, eq-or-lt_of_le, mul-le-mul_left, mul-pos, le-div_iff_mul-le, arith, lit<, lit≤, pow_pos, pow_mono, w32, SFits}
use lib.IntN.{+ℤ_idl}
use lib.Signed.{mag}
use lib.Ieee.{Float, nan, inf, fin, binary32, up, down, of_fields, of_bits, fits, is_nan, ne, to_signed}
use lib.Ieee.Exact.{HasValue}
use lib.Ieee.Fits.{down_pos}
use Rattle.num_convert.specs.Whole.{cut, signed, whole_of}
use Rattle.base_binary32.proofs.Nans.{unequal_nan}
use Rattle.base_binary32.proofs.Patterns.{units_of, sign, body, fields_of, fields_value, pattern_value}
use Rattle.num_convert.proofs.Cut.{cut_same, cut_zero}

under_end : (r c : ℕ) → r < c → min r c ≡ r
under_end r c h = omega arith

under_last : (r c : ℕ) → r < c → min r (c - 1) ≡ r
under_last r c h = omega arith

over_end : (r c : ℕ) → c ≤ r → min r c ≡ c
over_end r c h = omega arith

pub signed_in : (s : Bool) (r : ℕ) → r < 2 ^ 31 → signed 31 s r ≡ cond s (neg_ℤ (pos r)) (pos r)
signed_in true r h = ap (λ (k : ℕ). neg_ℤ (pos k)) (under_end r (2 ^ 31) h)
signed_in false r h = ap pos (under_last r (2 ^ 31) h)

pub signed_out : (s : Bool) (r : ℕ) → 2 ^ 31 ≤ r → signed 31 s r ≡ cond s (neg_ℤ (pos (2 ^ 31))) (pos (2 ^ 31 - 1))
signed_out true r h = ap (λ (k : ℕ). neg_ℤ (pos k)) (over_end r (2 ^ 31) h)
signed_out false r h = ap pos (over_end r (2 ^ 31 - 1) (omega arith))

pub at_value : (u : ℕ) (x : Float) (s : Bool) (n : ℕ) → HasValue x s n (2 ^ 149) → whole_of 31 u x ≡ signed 31 s (cut u n (2 ^ 149))
unfolding whole_of
at_value u nan s n h = absurd h
at_value u (inf t) s n h = absurd h
at_value u (fin t m g) s n h = ap (λ (b : Bool). signed 31 b (cut u (m * up g) (down g))) h.0 ∙ ap (signed 31 s) (cut_same u (m * up g) (down g) n (2 ^ 149) (down_pos g) (pow_pos 149) h.1)

pub far : (u n l : ℕ) → 0 < l → 2 ^ 31 * l ≤ n → 2 ^ 31 ≤ cut u n l
far u n l L h = (le-div_iff_mul-le (mul-pos L (lit< tt))).1 (le_trans (le_of_eq (sym (mul_assoc (2 ^ 31) l 2))) (le_trans (mul-le-mul_right 2 h) (le-add_right (n * 2) (u * l))))

-- ---- every answer is an i32
neg_in : (r : ℕ) → r ≤ 2 ^ 31 → mag (neg_ℤ (pos r)) < 2 ^ 31
neg_in zero h = lit< tt
neg_in (suc r) h = h

signed_mag : (s : Bool) (r : ℕ) → mag (signed 31 s r) < 2 ^ 31
signed_mag true r = neg_in (min r (2 ^ 31)) (omega arith)
signed_mag false r = omega arith

pub whole_in : (u : ℕ) (x : Float) → mag (whole_of 31 u x) < 2 ^ 31
unfolding whole_of
whole_in u nan = lit< tt
whole_in u (inf true) = lit< tt
whole_in u (inf false) = lit< tt
whole_in u (fin s m e) = signed_mag s (cut u (m * up e) (down e))

-- ---- by the pattern p of the value

pub in_range : (u : ℕ) (x : Float) (r : ℕ) → T (fits binary32 x) → body x < 1325400064 → r < 2 ^ 31 → ((n : ℕ) → HasValue (of_bits binary32 (body x)) false n (2 ^ 149) → r ≡ cut u n (2 ^ 149)) → whole_of 31 u x ≡ cond (sign x) (neg_ℤ (pos r)) (pos r)
in_range u x r t h l f =
    let p = body x in
    let n = units_of (p / 8388608) (p % 8388608) in
    let k : p / 8388608 < 255 = omega arith in
    let v : HasValue x (sign x) n (2 ^ 149) = subst (λ (y : Float). HasValue y (sign x) n (2 ^ 149)) (sym (fields_of x t)) (fields_value (sign x) (p / 8388608) (p % 8388608) k) in
    at_value u x (sign x) n v ∙ ap (signed 31 (sign x)) (sym (f n (pattern_value p (omega arith)))) ∙ signed_in (sign x) r l

units_far : (e t : ℕ) → 158 ≤ e → 2 ^ 31 * 2 ^ 149 ≤ units_of e t
units_far zero t h = absurd (omega (arith, h))
units_far (suc e) t h =
    let a : 8388608 ≤ t + 8388608 = omega arith in
    let b : 157 ≤ e = omega arith in
    le_trans (lit≤ {m = 2 ^ 31 * 2 ^ 149} {n = 8388608 * 2 ^ 157} tt) (le_trans (mul-le-mul_left 8388608 (pow_mono b)) (mul-le-mul_right (2 ^ e) a))

-- the field of the infinities and the NaNs
at_top : (u : ℕ) (s : Bool) (t : ℕ) → T (not (is_nan (of_fields binary32 s 255 t))) → whole_of 31 u (of_fields binary32 s 255 t) ≡ cond s (neg_ℤ (pos (2 ^ 31))) (pos (2 ^ 31 - 1))
unfolding of_fields is_nan whole_of
at_top u s t n = go (eqb t 0) n
  where
    go : (b : Bool) → T (not (is_nan (cond b (inf s) nan))) → whole_of 31 u (cond b (inf s) nan) ≡ cond s (neg_ℤ (pos (2 ^ 31))) (pos (2 ^ 31 - 1))
    go true n = refl
    go false n = absurd n

pub out_of_range : (u : ℕ) (x : Float) → T (fits binary32 x) → T (not (is_nan x)) → 1325400064 ≤ body x → whole_of 31 u x ≡ cond (sign x) (neg_ℤ (pos (2 ^ 31))) (pos (2 ^ 31 - 1))
out_of_range u x t n h = go (eq-or-lt_of_le top)
  where
    top : body x / 8388608 ≤ 255
    top = omega arith

    go : (body x / 8388608 ≡ 255) ⊎ (body x / 8388608 < 255) → whole_of 31 u x ≡ cond (sign x) (neg_ℤ (pos (2 ^ 31))) (pos (2 ^ 31 - 1))
    go (inl e) =
        let f : x ≡ of_fields binary32 (sign x) 255 (body x % 8388608) = fields_of x t ∙ ap (λ (k : ℕ). of_fields binary32 (sign x) k (body x % 8388608)) e in
        ap (whole_of 31 u) f ∙ at_top u (sign x) (body x % 8388608) (subst (λ (y : Float). T (not (is_nan y))) f n)
    go (inr l) =
        let m = units_of (body x / 8388608) (body x % 8388608) in
        let v : HasValue x (sign x) m (2 ^ 149) = subst (λ (y : Float). HasValue y (sign x) m (2 ^ 149)) (sym (fields_of x t)) (fields_value (sign x) (body x / 8388608) (body x % 8388608) l) in
        at_value u x (sign x) m v ∙ signed_out (sign x) (cut u m (2 ^ 149)) (far u m (2 ^ 149) (pow_pos 149) (units_far (body x / 8388608) (body x % 8388608) (omega arith)))

pub at_nan : (u : ℕ) (x : Float) → ne x x ≡ true → pos 0 ≡ whole_of 31 u x
unfolding whole_of
at_nan u x h = ap (whole_of 31 u) (sym (unequal_nan x h))

pub minus : (k : ℤ) → pos 0 -ℤ k ≡ neg_ℤ k
minus k = +ℤ_idl (neg_ℤ k)

pub neg_fits : (r : ℕ) → r < 2 ^ 31 → SFits w32 (neg_ℤ (pos r))
neg_fits zero h = record { sfits = h }
neg_fits (suc r) h = record { sfits = omega arith }

-- towards zero, `whole_of` is the library's cast
pub trunc_is_cast : (h : ℕ) (x : Float) → whole_of h 0 x ≡ to_signed h x
unfolding whole_of to_signed
trunc_is_cast h nan = refl
trunc_is_cast h (inf s) = refl
trunc_is_cast h (fin s m g) = ap (signed h s) (cut_zero (m * up g) (down g))
