-- A list after one of its places is set. Assumes nothing.
use mathlib.Core.Path.{◌≡◌}
use mathlib.Core.List.{List, [], ◌∷◌}
use Prim.Native.Nat.{ℕ, zero, suc, ◌<◌}
use native.Mathlib.Omega.{arith}
use lib.ListN.{length, get_or, set, replicate}

less : (m n : ℕ) → suc m < suc n → m < n
less m n h = omega arith

module _ {A : Type 0} where
  -- a fact of each place is kept where the set place has it
  pub set_every : (P : ℕ → A → Type 0) (xs : List A) (j : ℕ) (a d : A) → ((k : ℕ) → P k (get_or xs k d)) → P j a → (k : ℕ) → P k (get_or (set xs j a) k d)
  set_every P [] j a d h r k = h k
  set_every P (x ∷ xs) zero a d h r zero = r
  set_every P (x ∷ xs) zero a d h r (suc k) = h (suc k)
  set_every P (x ∷ xs) (suc j) a d h r zero = h zero
  set_every P (x ∷ xs) (suc j) a d h r (suc k) = set_every (λ i. P (suc i)) xs j a d (λ i. h (suc i)) r k

  -- inside the list it is enough that the other places have it
  pub set_others : (P : ℕ → A → Type 0) (xs : List A) (j : ℕ) (a d : A) → j < length xs → ((k : ℕ) → (k ≡ j → ⊥) → P k (get_or xs k d)) → P j a → (k : ℕ) → P k (get_or (set xs j a) k d)
  set_others P [] j a d l h r k = absurd (none l)
    where
      none : j < 0 → ⊥
      none q = omega arith
  set_others P (x ∷ xs) zero a d l h r zero = r
  set_others P (x ∷ xs) zero a d l h r (suc k) = h (suc k) (λ e. omega arith)
  set_others P (x ∷ xs) (suc j) a d l h r zero = h zero (λ e. omega arith)
  set_others P (x ∷ xs) (suc j) a d l h r (suc k) = set_others (λ i. P (suc i)) xs j a d (less j (length xs) l) (λ i q. h (suc i) (λ e. q (omega arith))) r k

  -- a fact of a and of what is read past the end is one of every place of n times a
  pub replicate_every : (P : A → Type 0) (n : ℕ) (a d : A) → P a → P d → (k : ℕ) → P (get_or (replicate n a) k d)
  replicate_every P zero a d p q k = q
  replicate_every P (suc n) a d p q zero = p
  replicate_every P (suc n) a d p q (suc k) = replicate_every P n a d p q k
