-- Things tried one after another, up to the first that finds something. Assumes nothing.
use Prim.Native.Nat.{ℕ, zero, suc, ◌+◌, ◌≤◌, ◌<◌}
use mathlib.Core.Logic.{◌⊎◌, inl, inr}
use mathlib.Core.Path.{◌≡◌, refl, subst}
use native.Mathlib.Nat.{eq-or-lt_of_le}
use native.Mathlib.Omega.{arith}
use Rattle.base_turns.specs.Turns.{Turn, more, stop, next, run}

module _ {R : Type 0} (f : ℕ → Turn (Unit {0}) R) where
  -- the tries from i up to j find nothing
  abbrev pub Empty : ℕ → ℕ → Type 0
  Empty i j = (k : ℕ) → i ≤ k → k < j → f k ≡ more tt

  -- one of them finds r, and those before it nothing
  pub record Hit (i j : ℕ) (r : R) : Type 0 where
    pub try : ℕ
    pub from : i ≤ try
    pub to : try < j
    pub found : f try ≡ stop r
    pub empty : Empty i try

  -- what comes of the tries from i up to j
  abbrev pub Tries : ℕ → ℕ → Turn (Unit {0}) R → Type 0
  Tries i j (more z) = Empty i j
  Tries i j (stop r) = Hit i j r

  one_more : (i j : ℕ) → f i ≡ more tt → Empty (suc i) j → Empty i j
  one_more i j e h k l m = go (eq-or-lt_of_le l)
    where
      go : (i ≡ k) ⊎ (i < k) → f k ≡ more tt
      go (inl q) = subst (λ (n : ℕ). f n ≡ more tt) q e
      go (inr q) = h k q m

  later : (i j : ℕ) (t : Turn (Unit {0}) R) → f i ≡ more tt → Tries (suc i) j t → Tries i j t
  later i j (more z) e h = one_more i j e h
  later i j (stop r) e h = record { try = h.try; from = omega (arith, h.from); to = h.to; found = h.found; empty = one_more i h.try e h.empty }

  first_try : (n i : ℕ) (t : Turn (Unit {0}) R) → f i ≡ t → Tries (suc i) (suc i + n) (run (λ k z. f k) n (suc i) tt) → Tries i (i + suc n) (next (run (λ k z. f k) n (suc i)) t)
  first_try n i (more z) e h = later i (i + suc n) (run (λ k z. f k) n (suc i) tt) e (subst (λ (j : ℕ). Tries (suc i) j (run (λ k z. f k) n (suc i) tt)) (omega arith) h)
  first_try n i (stop r) e h = record { try = i; from = omega arith; to = omega arith; found = e; empty = λ k l m. absurd (omega arith) }

  pub tried : (n i : ℕ) → Tries i (i + n) (run (λ k z. f k) n i tt)
  unfolding run
  tried zero i = λ k l h. absurd (omega arith)
  tried (suc n) i = first_try n i (f i) refl (tried n (suc i))
