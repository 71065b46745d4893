-- Rows of numbers that are read one after the other. Assumes nothing.
use Prim.Native.Nat.{ℕ, zero, suc, ◌+◌, ◌*◌, ◌-◌, ◌≤◌, ◌<◌, zero-le, suc-le-suc}
use mathlib.Core.Path.{◌≡◌, refl, sym, ap, ap₂, ◌∙◌}
use mathlib.Core.List.{List, [], ◌∷◌, ◌++◌}
use native.Mathlib.Nat.{mul-suc, mul-zero, add_comm, le_of_suc-le-suc}
use native.Mathlib.Numerals.{add-one}
use native.Mathlib.Omega.{arith}
use lib.IntN.{ℤ}
use lib.ListN.{length, take, drop, set, get_or, length-drop}
use lib.Seq.{take_all, take-suc-set, drop_at, drop-drop}
use Rattle.world_numbers.specs.Encoding.{each}
use Rattle.world_numbers.specs.Decoding.{each_in}

-- a part up to the end
pub to_end : (k : ℕ) (l : List ℤ) → k ≤ length l → take (length l - k) (drop k l) ≡ drop k l
to_end k l h = take_all (length l - k) (drop k l) (omega (arith, length-drop k l))

-- f reads a row of m numbers
module _ {A : Type 0} (f : List ℤ → A) (m : ℕ) where
  -- past one row more
  later : (i : ℕ) (l : List ℤ) → drop (m * i) (drop m l) ≡ drop (m * suc i) l
  later i l = drop-drop (m * i) m l ∙ ap (λ (k : ℕ). drop k l) (add_comm m (m * i) ∙ sym (mul-suc m i))

  first : (l : List ℤ) → f l ≡ f (drop (m * 0) l)
  first l = ap (λ (k : ℕ). f (drop k l)) (sym (mul-zero m))

  last : (i : ℕ) (l : List ℤ) → each_in f m (suc i) l ≡ each_in f m i l ++ (f (drop (m * i) l) ∷ [])
  unfolding each_in
  last zero l = ap (λ (x : A). x ∷ []) (first l)
  last (suc i) l = ap (λ (xs : List A). f l ∷ xs) (last i (drop m l) ∙ ap (λ (r : List ℤ). each_in f m i (drop m l) ++ (f r ∷ [])) (later i l))

  -- the first i rows are read, and the next one from where its numbers start
  pub next_read : (i : ℕ) (l : List ℤ) (xs : List A) (x : A) → i < length xs → take i xs ≡ each_in f m i l → x ≡ f (drop (m * i) l) → take (i + 1) (set xs i x) ≡ each_in f m (i + 1) l
  next_read i l xs x h q e =
      ap (λ (k : ℕ). take k (set xs i x)) (add-one i)
      ∙ take-suc-set xs i x h
      ∙ ap (λ (ys : List A). ys ++ (x ∷ [])) q
      ∙ ap (λ (y : A). each_in f m i l ++ (y ∷ [])) e
      ∙ sym (last i l)
      ∙ ap (λ (k : ℕ). each_in f m k l) (sym (add-one i))

  -- one row out of all of them
  pub row_in : (n k : ℕ) (l : List ℤ) (x : A) → k < n → get_or (each_in f m n l) k x ≡ f (drop (m * k) l)
  unfolding each_in
  row_in zero k l x h = absurd (omega arith)
  row_in (suc n) zero l x h = first l
  row_in (suc n) (suc k) l x h = row_in n k (drop m l) x (le_of_suc-le-suc h) ∙ ap f (later k l)

  pub rows_long : (n : ℕ) (l : List ℤ) → length (each_in f m n l) ≡ n
  unfolding each_in
  rows_long zero l = refl
  rows_long (suc n) l = ap suc (rows_long n (drop m l))

-- ---- what f writes in m numbers, g reads again, where P holds
module _ {A : Type 0} (f : A → List ℤ) (g : List ℤ → A) (m : ℕ) (long : (x : A) → length (f x) ≡ m) (P : A → Type 0) (back : (x : A) (l : List ℤ) → P x → g (f x ++ l) ≡ x) (past : A) where
  pub rows_back : (xs : List A) → ((k : ℕ) → k < length xs → P (get_or xs k past)) → each_in g m (length xs) (each f xs) ≡ xs
  unfolding each each_in
  rows_back [] h = refl
  rows_back (x ∷ xs) h = ap₂ ◌∷◌ (back x (each f xs) (h 0 (suc-le-suc zero-le))) (ap (each_in g m (length xs)) (drop_at (f x) (each f xs) m (long x)) ∙ rows_back xs (λ k l. h (suc k) (suc-le-suc l)))
