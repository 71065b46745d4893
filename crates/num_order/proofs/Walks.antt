-- Adding the same again and again: every place lies between the first and the last. Assumes nothing.
use mathlib.Core.Logic.{inl, inr}
use Prim.Native.Nat.{ℕ, zero, suc, ◌≤◌}
use native.Mathlib.Nat.{le_of_suc-le-suc, not-suc-le-zero}
use lib.Dec.{T}
use lib.Ieee.{Float, Format, add, le, fits}
use lib.Ieee.Fits.{add-fits}
use Rattle.base_turns.specs.Turns.{fold}
use Rattle.num_order.proofs.Chain.{Between, Number, le_refl, le_trans, nought, side}
use Rattle.num_order.proofs.Nans.{second, summand}
use Rattle.num_order.proofs.Steps.{falls, grows}

module _ (f : Format) (d : Float) where
  -- n times d added to x
  abbrev pub along : ℕ → ℕ → Float → Float
  along n i x = fold (λ j y. add f y d) n i x

  -- a walk that ends at no nan starts at none
  first : (n i : ℕ) (x : Float) → Number (along n i x) → Number x
  unfolding fold
  first zero i x a = a
  first (suc n) i x a = summand f x d (first n (suc i) (add f x d) a)

  -- an order that every step keeps, the walk keeps
  module _ (R : Float → Float → Type 0) (same : (x : Float) → Number x → R x x) (chain : (x y z : Float) → R x y → R y z → R x z) (step : (x : Float) → T (fits f x) → Number (add f x d) → R x (add f x d)) where
    onward : (n i : ℕ) (x : Float) → T (fits f x) → Number (along n i x) → R x (along n i x)
    unfolding fold
    onward zero i x t a = same x a
    onward (suc n) i x t a = chain x (add f x d) (along n (suc i) (add f x d)) (step x t (first n (suc i) (add f x d) a)) (onward n (suc i) (add f x d) (add-fits f x d) a)

    through : (k n i : ℕ) (x : Float) → k ≤ n → T (fits f x) → Number (along n i x) → R x (along k i x) × R (along k i x) (along n i x)
    unfolding fold
    through zero n i x l t a = (same x (first n i x a), onward n i x t a)
    through (suc k) zero i x l t a = absurd (not-suc-le-zero l)
    through (suc k) (suc n) i x l t a =
        let r = through k n (suc i) (add f x d) (le_of_suc-le-suc l) (add-fits f x d) a in
        (chain x (add f x d) (along k (suc i) (add f x d)) (step x t (first n (suc i) (add f x d) a)) r.0, r.1)

  -- whatever the sign of d
  pub along_between : (k n i : ℕ) (x : Float) → k ≤ n → T (fits f x) → Number (along n i x) → Between x (along k i x) (along n i x)
  unfolding fold
  along_between zero zero i x l t a = inl (le_refl x a, le_refl x a)
  along_between (suc k) zero i x l t a = absurd (not-suc-le-zero l)
  along_between k (suc n) i x l t a = elim (side d (second f x d (first n (suc i) (add f x d) a))) [ inl h ↦ inl (rising h) | inr h ↦ inr (sinking h) ]
    where
      rising : T (le nought d) → T (le x (along k i x)) × T (le (along k i x) (along (suc n) i x))
      rising h = through (λ y z. T (le y z)) le_refl le_trans (λ y u b. grows f y d u b h) k (suc n) i x l t a

      sinking : T (le d nought) → T (le (along (suc n) i x) (along k i x)) × T (le (along k i x) x)
      sinking h = let r = through (λ y z. T (le z y)) le_refl (λ y z w p q. le_trans w z y q p) (λ y u b. falls f y d u b h) k (suc n) i x l t a in (r.1, r.0)
