-- A point on the way, x + d * k for a k from 0 to 1, lies between the two ends. Assumes nothing.
use mathlib.Core.Logic.{inl, inr}
use lib.Dec.{T}
use lib.Ieee.{Float, Format, add, mul, le, fits}
use Rattle.num_order.proofs.Chain.{Between, Number, le_refl, nought, side}
use Rattle.num_order.proofs.Sums.{add_mono}
use Rattle.num_order.proofs.Nans.{second, summand}
use Rattle.num_order.proofs.Steps.{falls, grows}
use Rattle.num_order.proofs.Products.{Factor, mul_down, mul_up}

module _ (f : Format) (x d k : Float) (t : T (fits f x)) (u : T (fits f d)) (h : Factor k) (a : Number (add f x (mul f d k))) (b : Number (add f x d)) where
  m : Number (mul f d k)
  m = second f x (mul f d k) a

  point_up : T (le nought d) → T (le x (add f x (mul f d k))) × T (le (add f x (mul f d k)) (add f x d))
  point_up z =
      let r = mul_up f d k u h z m in
      (grows f x (mul f d k) t a r.0, add_mono f x x (mul f d k) d (le_refl x (summand f x d b)) r.1 a b)

  point_down : T (le d nought) → T (le (add f x d) (add f x (mul f d k))) × T (le (add f x (mul f d k)) x)
  point_down z =
      let r = mul_down f d k u h z m in
      (add_mono f x x d (mul f d k) (le_refl x (summand f x d b)) r.0 b a, falls f x (mul f d k) t a r.1)

  pub point_between : Between x (add f x (mul f d k)) (add f x d)
  point_between = elim (side d (second f x d b)) [ inl z ↦ inl (point_up z) | inr z ↦ inr (point_down z) ]
