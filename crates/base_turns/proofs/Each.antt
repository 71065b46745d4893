-- A fact of each number from j up to i, i left out. Assumes nothing.
use Prim.Native.Nat.{ℕ, ◌+◌, ◌≤◌, ◌<◌}
use mathlib.Core.Bool.{Bool, true, false, not}
use mathlib.Core.Logic.{inl, inr, ◌⊎◌, ⊎_elim}
use mathlib.Core.Path.{◌≡◌, sym, subst}
use native.Mathlib.Omega.{arith}
use lib.Dec.{T, ltb, ltb→lt, nltb→le}

pub not_both : (j i : ℕ) → j ≤ i → i < j → ⊥
not_both j i l h = omega arith

less_or : (j i : ℕ) → (j < i) ⊎ (i ≤ j)
less_or j i = go (ltb j i) (ltb→lt j i) (nltb→le j i)
  where
    go : (b : Bool) → (T b → j < i) → (T (not b) → i ≤ j) → (j < i) ⊎ (i ≤ j)
    go true h k = inl (h tt)
    go false h k = inr (k tt)

pub record Each (P : ℕ → Type 0) (j i : ℕ) : Type 0 where
  pub begun : j ≤ i
  pub each : (k : ℕ) → j ≤ k → k < i → P k

module _ {P : ℕ → Type 0} {j : ℕ} where
  pub each_none : Each P j j
  each_none = record { begun = omega arith; each = λ k l h. absurd (not_both j k l h) }

  -- and of each from i up to n
  pub each_over : {i : ℕ} (n : ℕ) → Each P j i → i ≤ n → ((k : ℕ) → i ≤ k → k < n → P k) → Each P j n
  each_over {i} n e h f = record { begun = omega (arith, e.begun); each = λ k l g. ⊎_elim (λ (z : k < i). e.each k l z) (λ (z : i ≤ k). f k z g) (less_or k i) }

  -- and of i
  pub each_on : {i : ℕ} → Each P j i → P i → Each P j (i + 1)
  each_on {i} e p = each_over (i + 1) e (omega arith) (λ k l g. subst P (sym (same k l g)) p)
    where
      same : (k : ℕ) → i ≤ k → k < i + 1 → k ≡ i
      same k l g = omega arith
