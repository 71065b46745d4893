-- A walk in which each turn changes its own place and no other: what it leaves of one place. Assumes nothing.
use Prim.Native.Nat.{ℕ, suc, ◌≤◌, ◌<◌}
use native.Mathlib.Omega.{arith}
use mathlib.Core.Bool.{Bool, true, false}
use mathlib.Core.Path.{◌≡◌, refl, ap, ◌∙◌, subst}
use lib.Dec.{eqb}
use borrow.Author.Tests.{eqb-true, eqb-false}
use Rattle.base_turns.specs.Turns.{Turn, more, stop, run}
use Rattle.base_turns.proofs.Kept.{Ends, run-kept}

-- P of the state that a turn goes on with
abbrev pub On : {S R : Type 0} → (S → Type 0) → Turn S R → Type 0
On P a = Ends P (λ r. Unit {0}) a

pub on_map_lem : {S R : Type 0} (P Q : S → Type 0) (a : Turn S R) → ((s : S) → P s → Q s) → On P a → On Q a
on_map_lem P Q (more s) f h = f s h
on_map_lem P Q (stop r) f h = h

-- what is `at` the place k, kept by the turns of others and made g of it by its own, where each turn keeps I
module _ {S R X : Type 0} (f : ℕ → S → Turn S R) (I : S → Type 0) (at : S → X) (g : X → X) (k : ℕ)
    (others : (j : ℕ) (s : S) → I s → (k ≡ j → ⊥) → On (λ u. I u × (at u ≡ at s)) (f j s))
    (own : (s : S) → I s → On (λ u. I u × (at u ≡ g (at s))) (f k s)) where
  -- after i turns from a state with x at the place
  record Upto (x : X) (i : ℕ) (s : S) : Type 0 where
    kept : I s
    before : i ≤ k → at s ≡ x
    after : k < i → at s ≡ g x

  own_turn : (x : X) (s : S) → Upto x k s → On (Upto x (suc k)) (f k s)
  own_turn x s h = on_map_lem (λ u. I u × (at u ≡ g (at s))) (Upto x (suc k)) (f k s) (λ u q. record { kept = q.0; before = λ l. absurd (omega arith); after = λ l. q.1 ∙ ap g (h.before (omega arith)) }) (own s h.kept)

  below : (j : ℕ) → (k ≡ j → ⊥) → k < suc j → k < j
  below j d l = omega arith

  other_turn : (x : X) (i : ℕ) (s : S) → (k ≡ i → ⊥) → Upto x i s → On (Upto x (suc i)) (f i s)
  other_turn x i s d h = on_map_lem (λ u. I u × (at u ≡ at s)) (Upto x (suc i)) (f i s) (λ u q. record { kept = q.0; before = λ l. q.1 ∙ h.before (omega arith); after = λ l. q.1 ∙ h.after (below i d l) }) (others i s h.kept d)

  turn : (x : X) (i : ℕ) (s : S) → Upto x i s → On (Upto x (suc i)) (f i s)
  turn x i s h = go (eqb k i) refl
    where
      go : (b : Bool) → eqb k i ≡ b → On (Upto x (suc i)) (f i s)
      go true e = subst (λ (j : ℕ). Upto x j s → On (Upto x (suc j)) (f j s)) (eqb-true k i e) (own_turn x s) h
      go false e = other_turn x i s (eqb-false k i e) h

  pub run_own : (n : ℕ) → k < n → (s : S) → I s → On (λ u. at u ≡ g (at s)) (run f n 0 s)
  run_own n l s h = on_map_lem _ (λ u. at u ≡ g (at s)) (run f n 0 s) (λ u q. q.after (omega arith)) (run-kept f (Upto (at s)) (λ r. Unit {0}) (turn (at s)) n 0 s (record { kept = h; before = λ z. refl; after = λ z. absurd (omega arith) }))
