-- A loop that replaces each element of a list by f of it: after i turns, and at its end. Assumes nothing.
use Prim.Native.Nat.{ℕ, zero, suc, ◌≤◌, ◌<◌}
use mathlib.Core.List.{List, [], ◌∷◌, map}
use mathlib.Core.Path.{◌≡◌, refl, ap}
use native.Mathlib.Omega.{arith}
use lib.ListN.{length, get_or, set}

module _ {A : Type 0} (f : A → A) where
  -- the first i are replaced
  abbrev pub replaced : ℕ → List A → List A
  replaced zero l = l
  replaced (suc i) [] = []
  replaced (suc i) (x ∷ l) = f x ∷ replaced i l

  pub replaced_on : (d : A) (i : ℕ) (l : List A) → i < length l → set (replaced i l) i (f (get_or (replaced i l) i d)) ≡ replaced (suc i) l
  replaced_on d i [] h = absurd (omega arith)
  replaced_on d zero (x ∷ l) h = refl
  replaced_on d (suc i) (x ∷ l) h = ap (λ (m : List A). f x ∷ m) (replaced_on d i l (omega arith))

  pub replaced_end : (i : ℕ) (l : List A) → length l ≤ i → replaced i l ≡ map f l
  replaced_end zero [] h = refl
  replaced_end zero (x ∷ l) h = absurd (omega arith)
  replaced_end (suc i) [] h = refl
  replaced_end (suc i) (x ∷ l) h = ap (λ (m : List A). f x ∷ m) (replaced_end i l (omega arith))
