-- A rule of a table, proved at all of its places by one test that antt computes. Assumes nothing.
use mathlib.Core.Path.{◌≡◌, sym, subst}
use mathlib.Core.Logic.{◌⊎◌, inl, inr}
use mathlib.Core.Bool.{Bool, true, ◌&&◌}
use Prim.Native.Nat.{ℕ, zero, suc, ◌<◌}
use native.Mathlib.Nat.{not-suc-le-zero, eq-or-lt_of_le, le_of_suc-le-suc}
use lib.Dec.{T}
use mir.Facts.{and_yes}

-- the test passes at every number below n
abbrev pub every_below : (ℕ → Bool) → ℕ → Bool
every_below f zero = true
every_below f (suc n) = f n && every_below f n

pub below_at : (f : ℕ → Bool) (n : ℕ) → T (every_below f n) → (k : ℕ) → k < n → T (f k)
below_at f zero t k h = absurd (not-suc-le-zero h)
below_at f (suc n) t k h = go (eq-or-lt_of_le (le_of_suc-le-suc h)) (and_yes (f n) (every_below f n) t) (below_at f n)
  where
    go : (k ≡ n) ⊎ (k < n) → T (f n) × T (every_below f n) → (T (every_below f n) → (k : ℕ) → k < n → T (f k)) → T (f k)
    go (inl e) p r = subst (λ (i : ℕ). T (f i)) (sym e) p.0
    go (inr l) p r = r p.1 k l
