-- A scan of seats that has found none so far, and what each seat of a row carries on. Assumes nothing.
use Prim.Native.Nat.{ℕ, zero, suc, ◌+◌, ◌≤◌, ◌<◌}
use mathlib.Core.Bool.{Bool, true, false, ◌||◌, true≢false}
use mathlib.Core.Logic.{⊎_elim}
use mathlib.Core.Path.{◌≡◌, refl, sym, ap, ◌∙◌, subst}
use native.Mathlib.Nat.{eq-or-lt_of_le}
use native.Mathlib.Omega.{arith}

-- those from j up to k were asked, and unless `any` says otherwise f is false of each
pub record Scanned (f : ℕ → Bool) (j k : ℕ) (any : Bool) : Type 0 where
  pub begun : j ≤ k
  pub none : any ≡ false → (i : ℕ) → j ≤ i → i < k → f i ≡ false

neither : (a b : Bool) → a || b ≡ false → (a ≡ false) × (b ≡ false)
neither true b e = absurd (true≢false e)
neither false b e = (refl, e)

no_number : (j i : ℕ) → j ≤ i → i < j → ⊥
no_number j i l h = omega arith

module _ {f : ℕ → Bool} {j : ℕ} where
  pub scan_first : Scanned f j j false
  scan_first = record { begun = omega arith; none = λ e i l h. absurd (no_number j i l h) }

  pub scan_on : {k : ℕ} {any : Bool} (t : Bool) → Scanned f j k any → t ≡ f k → Scanned f j (k + 1) (any || t)
  scan_on {k} {any} t s q = record {
    begun = omega arith;
    none = λ e i l h. ⊎_elim (λ (z : i ≡ k). ap f z ∙ sym q ∙ (neither any t e).1) (λ z. s.none (neither any t e).0 i l z) (eq-or-lt_of_le (omega arith));
  }

-- what each of the n from j on carries on holds after them
pub through : (P : ℕ → Type 0) (n j : ℕ) → ((k : ℕ) → j ≤ k → k < j + n → P k → P (k + 1)) → P j → P (j + n)
through P zero j h p = subst P (omega arith) p
through P (suc n) j h p = subst P (omega arith) (h (j + n) (omega arith) (omega arith) (through P n j (λ k l m. h k l (omega arith)) p))
