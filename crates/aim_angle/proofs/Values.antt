-- Reading an array that holds the first values of a function. Assumes nothing.
use Rattle.std.proofs.Common.{◌≡◌, ℕ, zero, suc, ◌+◌, ◌<◌, List, [], ◌∷◌, get_or, sym, ap, ◌∙◌, le_of_suc-le-suc, not-suc-le-zero, add-zero, zero-add, arith}

module _ {A : Type 0} (f : ℕ → A) where
  -- n values, the first at i
  abbrev pub values : ℕ → ℕ → List A
  values i zero = []
  values i (suc n) = f i ∷ values (suc i) n

  values-at : (i n k : ℕ) (d : A) → k < n → get_or (values i n) k d ≡ f (i + k)
  values-at i zero k d h = absurd (not-suc-le-zero h)
  values-at i (suc n) zero d h = ap f (sym (add-zero i))
  values-at i (suc n) (suc k) d h = values-at (suc i) n k d (le_of_suc-le-suc h) ∙ ap f (one_on i k)
    where
      one_on : (i k : ℕ) → suc i + k ≡ i + suc k
      one_on i k = omega arith

  pub value : (n k : ℕ) (d : A) → k < n → get_or (values 0 n) k d ≡ f k
  value n k d h = values-at 0 n k d h ∙ ap f (zero-add k)
