-- Which values and patterns are no NaN's. Assumes nothing.
use mathlib.Core.Path.{◌≡◌, refl, ◌∙◌, sym, subst}
use mathlib.Core.Bool.{Bool, true, false, not, true≢false}
use Prim.Native.Nat.{ℕ, ◌*◌, ◌%◌, ◌≤◌, ◌<◌}
use native.Mathlib.Nat.{le_trans, not-le_of_lt, mod-le}
use lib.Dec.{T, ltb, not_T, ltb→lt, lt→ltb}
use lib.Ieee.{Float, nan, inf, fin, Format, lt, ne, is_nan, nan_bits, ones, hid, top, of_bits}
use lib.Ieee.Bits.{nan_bits_is, nan_bits_above}
use lib.Ieee.Compare.{differs_from_itself}

-- what compares above another value
pub above_no_nan : (x y : Float) → lt x y ≡ true → T (not (is_nan y))
unfolding lt is_nan
above_no_nan nan nan h = absurd (true≢false (sym h))
above_no_nan (inf s) nan h = absurd (true≢false (sym h))
above_no_nan (fin s m e) nan h = absurd (true≢false (sym h))
above_no_nan x (inf t) h = tt
above_no_nan x (fin t n d) h = tt

-- what equals itself
pub equal_no_nan : (x : Float) → ne x x ≡ false → T (not (is_nan x))
unfolding ne is_nan
equal_no_nan nan h = absurd (true≢false h)
equal_no_nan (inf s) h = tt
equal_no_nan (fin s m e) h = tt

pub unequal_nan : (x : Float) → ne x x ≡ true → x ≡ nan
unequal_nan x h = differs_from_itself x (subst T (sym h) tt)

-- a pattern that is at most the infinity's but for its sign
pub body_no_nan : (f : Format) (n : ℕ) → n % top f ≤ ones f * hid f → T (not (nan_bits f n))
body_no_nan f n h =
    subst (λ (b : Bool). T (not b)) (sym (nan_bits_above f n))
    (not_T (ltb (ones f * hid f) (n % top f)) (λ (t : T (ltb (ones f * hid f) (n % top f))). not-le_of_lt (ltb→lt (ones f * hid f) (n % top f) t) h))

-- and one with its sign clear
pub pattern_no_nan : (f : Format) (n : ℕ) → n ≤ ones f * hid f → T (not (nan_bits f n))
pattern_no_nan f n h = body_no_nan f n (le_trans (mod-le n (top f)) h)

is_nan_lem : (x : Float) → T (is_nan x) → x ≡ nan
unfolding is_nan
is_nan_lem nan h = refl
is_nan_lem (inf s) h = absurd h
is_nan_lem (fin s m e) h = absurd h

-- a pattern above the infinity's but for its sign
pub body_nan : (f : Format) (n : ℕ) → ones f * hid f < n % top f → of_bits f n ≡ nan
body_nan f n h = is_nan_lem (of_bits f n) (subst T (sym (nan_bits_above f n) ∙ nan_bits_is f n) (lt→ltb (ones f * hid f) (n % top f) h))
