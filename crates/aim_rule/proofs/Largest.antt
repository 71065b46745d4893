-- `largest` gives the one number that is `Largest`; in a stretch, that is a number that passes where the next does not. Assumes nothing.
use mathlib.Core.Path.{◌≡◌, refl, sym, ap, ◌∙◌, subst}
use mathlib.Core.Logic.{◌⊎◌, inl, inr}
use mathlib.Core.Bool.{Bool, true, false, cond, true≢false}
use Prim.Native.Nat.{ℕ, zero, suc, ◌≤◌, ◌<◌, zero-le}
use native.Mathlib.Nat.{le_refl, le_trans, lt_irrefl, le-suc, eq-or-lt_of_le, le_of_suc-le-suc}
use native.Mathlib.Omega.{arith}
use Rattle.aim_rule.specs.Angle.{largest, Largest, Stretch}

module _ (p : ℕ → Bool) where
  pub largest_is : p 0 ≡ true → (top : ℕ) → Largest p top (largest p top)
  unfolding largest
  largest_is z zero = record { within = zero-le; passes = z; none_above = λ m h k. absurd (lt_irrefl 0 (le_trans h k)) }
  largest_is z (suc top) = go (p (suc top)) refl (largest_is z top)
    where
      go : (b : Bool) → p (suc top) ≡ b → Largest p top (largest p top) → Largest p (suc top) (cond b (suc top) (largest p top))
      go true e l = record { within = le_refl (suc top); passes = e; none_above = λ m h k. absurd (lt_irrefl (suc top) (le_trans h k)) }
      go false e l = record {
        within = le_trans l.within (le-suc top);
        passes = l.passes;
        none_above = λ m h k. elim (eq-or-lt_of_le k) [ inl q ↦ subst (λ (i : ℕ). p i ≡ false) (sym q) e | inr q ↦ l.none_above m h (le_of_suc-le-suc q) ];
      }

  pub largest_only : (top n : ℕ) → Largest p top n → n ≡ largest p top
  unfolding largest
  largest_only zero n l = none n l.within
    where
      none : (n : ℕ) → n ≤ 0 → n ≡ 0
      none n h = omega arith
  largest_only (suc top) n l = go (p (suc top)) refl (eq-or-lt_of_le l.within) (λ h. largest_only top n (record { within = h; passes = l.passes; none_above = λ m k q. l.none_above m k (le_trans q (le-suc top)) }))
    where
      go : (b : Bool) → p (suc top) ≡ b → (n ≡ suc top) ⊎ (n < suc top) → (n ≤ top → n ≡ largest p top) → n ≡ cond b (suc top) (largest p top)
      go true e (inl q) f = q
      go true e (inr q) f = absurd (true≢false (sym e ∙ l.none_above (suc top) q (le_refl (suc top))))
      go false e (inl q) f = absurd (true≢false (sym l.passes ∙ ap p q ∙ e))
      go false e (inr q) f = f (le_of_suc-le-suc q)

  -- a search may stop at the first that passes from above, or halve
  pub stretch_end : (top n : ℕ) → Stretch p top → n ≤ top → p n ≡ true → (n < top → p (suc n) ≡ false) → n ≡ largest p top
  stretch_end top n s h t f = largest_only top n (record { within = h; passes = t; none_above = above })
    where
      above : (m : ℕ) → n < m → m ≤ top → p m ≡ false
      above m k q = go (p m) refl
        where
          go : (b : Bool) → p m ≡ b → p m ≡ false
          go true e = absurd (true≢false (sym (s.below (suc n) m k q e) ∙ f (le_trans k q)))
          go false e = e
