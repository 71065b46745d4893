-- A walk of one turn more is the walk and then its last turn. Assumes nothing.
use Prim.Native.Nat.{ℕ, zero, suc, ◌+◌}
use mathlib.Core.Path.{◌≡◌, refl, ap, ◌∙◌}
use native.Mathlib.Omega.{arith}
use Rattle.base_turns.specs.Turns.{Turn, more, stop, next, run}

next_more : {S R : Type 0} (a : Turn S R) → next more a ≡ a
next_more (more s) = refl
next_more (stop r) = refl

module _ {S R : Type 0} (f : ℕ → S → Turn S R) where
  step_last : (n i : ℕ) → ((u : S) → run f (suc n) (suc i) u ≡ next (f (n + suc i)) (run f n (suc i) u)) → (a : Turn S R) → next (run f (suc n) (suc i)) a ≡ next (f (suc n + i)) (next (run f n (suc i)) a)
  step_last n i h (more u) = h u ∙ ap (λ (j : ℕ). next (f j) (run f n (suc i) u)) (omega arith)
  step_last n i h (stop r) = refl

  pub run_last : (n i : ℕ) (s : S) → run f (suc n) i s ≡ next (f (n + i)) (run f n i s)
  unfolding run
  run_last zero i s = next_more (f i s) ∙ ap (λ (j : ℕ). f j s) (omega arith)
  run_last (suc n) i s = step_last n i (run_last n (suc i)) (f i s)
