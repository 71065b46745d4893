-- A whole number i up to x, as a fraction i / x of it, is nan or lies from 0 to 1. Assumes nothing.
use mathlib.Core.Path.{◌≡◌}
use mathlib.Core.Logic.{inl, inr, ◌⊎◌, ⊎_elim}
use mathlib.Core.Bool.{Bool, true, false}
use Prim.Native.Nat.{ℕ, zero, suc, ◌+◌, ◌*◌, ◌/◌, ◌^◌, ◌≤◌, min}
use native.Mathlib.Nat.{le-div_iff_mul-le}
use native.Mathlib.Omega.{arith}
use lib.Dec.{T, lit<}
use lib.IntN.{pos, neg_ℤ}
use lib.Signed.{mag}
use lib.Ieee.{Float, nan, inf, fin, Format, up, down, round, div, le, of_int, fits}
use lib.Ieee.Fits.{down_pos}
use Rattle.num_convert.specs.Whole.{cut, signed, whole_of, trunc_to_i32}
use Rattle.num_convert.proofs.Cut.{cut_zero}
use Rattle.num_order.proofs.Signed.{gain, loss}
use Rattle.num_order.proofs.Chain.{most, nan_or, nought}
use Rattle.num_order.proofs.Places.{own_placed, placed_ordered, round_number, round_placed}
use Rattle.num_order.proofs.Products.{Factor, none_under, nought_fits}
use Rattle.num_order.proofs.Quotients.{div_factor}

pub whole_up : (f : Format) (i : ℕ) → T (le nought (of_int f (pos i)))
unfolding of_int
whole_up f i = placed_ordered (own_placed f nought (nought_fits f) tt) (round_placed f false i i 0 1 (omega arith)) (lit< tt) (lit< tt) (omega arith)

-- the size of an integer that was made of the size a is at most a
size_of : (h : ℕ) (s : Bool) (a : ℕ) → mag (signed h s a) ≤ a
size_of h false a = omega arith
size_of h true a = go (min a (2 ^ h)) (omega arith)
  where
    go : (k : ℕ) → k ≤ a → mag (neg_ℤ (pos k)) ≤ a
    go zero l = l
    go (suc k) l = omega arith

-- a whole number up to the truncated x is up to x
pub whole_to : (f : Format) (x : Float) (i : ℕ) → T (fits f x) → T (le nought x) → i ≤ mag (trunc_to_i32 x) → T (le (of_int f (pos i)) x)
unfolding whole_of of_int le
whole_to f nan i t z h = absurd z
whole_to f (inf true) i t z h = absurd z
whole_to f (inf false) i t z h = most (round f false i 1) (round_number f false i 1)
whole_to f (fin s m e) i t z h =
    let q : i ≤ m * up e / down e = omega (arith, size_of 31 s (cut 0 (m * up e) (down e)), cut_zero (m * up e) (down e)) in
    let c : i * down e ≤ m * up e = (le-div_iff_mul-le (down_pos e)).0 q in
    placed_ordered (round_placed f false i i 0 1 (omega arith)) (own_placed f (fin s m e) t tt) (lit< tt) (down_pos e) (over s (m * up e) (down e) (none_under (fin s m e) tt z) c)
  where
    over : (s : Bool) (a c : ℕ) → loss s a ≡ 0 → i * c ≤ a → i * c + loss s a * 1 ≤ gain s a * 1 + 0 * c
    over true a c u k = omega arith
    over false a c u k = omega arith

pub fraction : (f : Format) (x : Float) (i : ℕ) → T (fits f x) → T (le nought x) → i ≤ mag (trunc_to_i32 x) → (div f (of_int f (pos i)) x ≡ nan) ⊎ Factor (div f (of_int f (pos i)) x)
fraction f x i t z h = ⊎_elim inl (λ a. inr (div_factor f (of_int f (pos i)) x (whole_up f i) (whole_to f x i t z h) a)) (nan_or (div f (of_int f (pos i)) x))
