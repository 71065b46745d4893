-- A value of the format grows by what is not below zero, and falls by what is not above. Assumes nothing.
use mathlib.Core.Bool.{true, false}
use Prim.Native.Nat.{ℕ, ◌+◌, ◌*◌, ◌≤◌}
use native.Mathlib.Nat.{mul-pos, mul_assoc, mul_comm, mul_left_comm, add-mul}
use native.Mathlib.Omega.{arith}
use lib.Dec.{T, lit<}
use lib.Ieee.{Float, nan, inf, fin, Format, up, down, add, le, fits, is_nan}
use lib.Ieee.Fits.{down_pos}
use Rattle.num_order.proofs.Signed.{gain, loss}
use Rattle.num_order.proofs.Chain.{Number, le_refl, le_trans, nought}
use Rattle.num_order.proofs.Places.{own_placed, placed_ordered}
use Rattle.num_order.proofs.Sums.{add_mono, add_placed}
use Rattle.num_order.proofs.Nans.{add_number, summand}

-- ---- with nothing added it stays
module _ (p n c : ℕ) where
  no_less : p * (c * 1) + (n * 1 + 0 * c) * c ≤ (p * 1 + 0 * c) * c + n * (c * 1)
  no_less = simp (add-mul, mul_assoc, mul_comm, mul_left_comm) (omega arith)

  no_more : (p * 1 + 0 * c) * c + n * (c * 1) ≤ p * (c * 1) + (n * 1 + 0 * c) * c
  no_more = simp (add-mul, mul_assoc, mul_comm, mul_left_comm) (omega arith)

stays_from : (f : Format) (x : Float) → T (fits f x) → Number x → T (le x (add f x nought))
unfolding add le is_nan
stays_from f nan t a = absurd a
stays_from f (inf true) t a = tt
stays_from f (inf false) t a = tt
stays_from f (fin s m e) t a =
    placed_ordered (own_placed f (fin s m e) t tt) (add_placed f (fin s m e) nought tt tt) (down_pos e) (mul-pos (down_pos e) (lit< tt)) (no_less (gain s (m * up e)) (loss s (m * up e)) (down e))

stays_to : (f : Format) (x : Float) → T (fits f x) → Number x → T (le (add f x nought) x)
unfolding add le is_nan
stays_to f nan t a = absurd a
stays_to f (inf true) t a = tt
stays_to f (inf false) t a = tt
stays_to f (fin s m e) t a =
    placed_ordered (add_placed f (fin s m e) nought tt tt) (own_placed f (fin s m e) t tt) (mul-pos (down_pos e) (lit< tt)) (down_pos e) (no_more (gain s (m * up e)) (loss s (m * up e)) (down e))

-- ---- and it goes with what is added
module _ (f : Format) (x d : Float) (t : T (fits f x)) (a : Number (add f x d)) where
  number : Number x
  number = summand f x d a

  pub grows : T (le nought d) → T (le x (add f x d))
  grows h = le_trans x (add f x nought) (add f x d) (stays_from f x t number) (add_mono f x x nought d (le_refl x number) h (add_number f x nought number tt) a)

  pub falls : T (le d nought) → T (le (add f x d) x)
  falls h = le_trans (add f x d) (add f x nought) x (add_mono f x x d nought (le_refl x number) h a (add_number f x nought number tt)) (stays_to f x t number)
