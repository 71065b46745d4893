-- A walk in which one turn alone does anything is that turn. Assumes nothing.
use Prim.Native.Nat.{ℕ, zero, suc, ◌+◌, ◌≤◌, ◌<◌}
use native.Mathlib.Omega.{arith}
use native.Mathlib.Nat.{eq-or-lt_of_le}
use mathlib.Core.Logic.{◌⊎◌, inl, inr}
use mathlib.Core.Path.{◌≡◌, refl, ap, ◌∙◌}
use Rattle.base_turns.specs.Turns.{Turn, more, stop, next, run}

module _ {S R : Type 0} (f : ℕ → S → Turn S R) where
  -- none does
  pub none_acts : (n i : ℕ) (s : S) → ((j : ℕ) → i ≤ j → f j s ≡ more s) → run f n i s ≡ more s
  unfolding run
  none_acts zero i s h = refl
  none_acts (suc n) i s h = ap (next (run f n (suc i))) (h i (omega arith)) ∙ none_acts n (suc i) s (λ j l. h j (omega arith))

  after : (n i : ℕ) (a : Turn S R) → ((u : S) → a ≡ more u → run f n (suc i) u ≡ more u) → next (run f n (suc i)) a ≡ a
  after n i (more u) h = h u refl
  after n i (stop r) h = refl

  pub one_acts : (n i k : ℕ) (s : S) → i ≤ k → k < i + n → ((j : ℕ) → (j ≡ k → ⊥) → f j s ≡ more s) → ((u : S) → f k s ≡ more u → (j : ℕ) → (j ≡ k → ⊥) → f j u ≡ more u) → run f n i s ≡ f k s
  unfolding run
  one_acts zero i k s a b h g = absurd (omega arith)
  one_acts (suc n) i k s a b h g = go (eq-or-lt_of_le a) (λ l. one_acts n (suc i) k s (omega arith) (omega arith) h g)
    where
      go : (i ≡ k) ⊎ (i < k) → (i < k → run f n (suc i) s ≡ f k s) → next (run f n (suc i)) (f i s) ≡ f k s
      go (inl e) r = ap (λ (j : ℕ). next (run f n (suc j)) (f j s)) e ∙ after n k (f k s) (λ u q. none_acts n (suc k) u (λ j l. g u q j (λ z. omega arith)))
      go (inr l) r = ap (next (run f n (suc i))) (h i (λ z. omega arith)) ∙ r l
