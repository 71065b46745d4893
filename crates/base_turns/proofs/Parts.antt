-- Turns that are all alike, taken in two parts. Assumes nothing.
use Prim.Native.Nat.{ℕ, zero, suc, ◌+◌}
use mathlib.Core.Path.{◌≡◌, refl, ap, ◌∙◌}
use native.Mathlib.Nat.{zero-add, suc-add}
use Rattle.base_turns.specs.Turns.{fold}

module _ {S : Type 0} (f : S → S) where
  -- the index says nothing
  anywhere : (n i j : ℕ) (s : S) → fold (λ k. f) n i s ≡ fold (λ k. f) n j s
  unfolding fold
  anywhere zero i j s = refl
  anywhere (suc n) i j s = anywhere n (suc i) (suc j) (f s)

  pub fold-parts : (m n i j k : ℕ) (s : S) → fold (λ l. f) (m + n) i s ≡ fold (λ l. f) n j (fold (λ l. f) m k s)
  unfolding fold
  fold-parts zero n i j k s = ap (λ (l : ℕ). fold (λ l. f) l i s) (zero-add n) ∙ anywhere n i j s
  fold-parts (suc m) n i j k s = ap (λ (l : ℕ). fold (λ l. f) l i s) (suc-add m n) ∙ fold-parts m n (suc i) j (suc k) (f s)

  -- a fixed point of f stays as it is
  pub fold_fixed : (n i : ℕ) (s : S) → f s ≡ s → fold (λ l. f) n i s ≡ s
  unfolding fold
  fold_fixed zero i s e = refl
  fold_fixed (suc n) i s e = ap (fold (λ l. f) n (suc i)) e ∙ fold_fixed n (suc i) s e
