-- A loop of the code over the indices from 0 up to n, against `run` or `fold`: an invariant, and a law for each of the loop's needs. Assumes nothing.
use Prim.Native.Nat.{ℕ, zero, suc, ◌+◌, ◌-◌, ◌≤◌, ◌<◌}
use mathlib.Core.Path.{◌≡◌, refl, sym, ap, ◌∙◌}
use native.Mathlib.Numerals.{add-one}
use native.Mathlib.Nat.{sub-zero}
use native.Mathlib.Omega.{arith}
use Rattle.base_turns.specs.Turns.{Turn, more, stop, next, run, fold}

one_more : (n i : ℕ) → i < n → n - i ≡ suc (n - (i + 1))
one_more n i h = omega arith

no_more : (n i : ℕ) → n ≤ i → n - i ≡ 0
no_more n i h = omega arith

-- ---- a walk that may stop

-- The invariant: what is left, from the state s at the index i of n, ends as the whole walk does. A record, so that a law finds f, n, i, s and e.
pub record Left {S R : Type 0} (f : ℕ → S → Turn S R) (n i : ℕ) (s : S) (e : Turn S R) : Type 0 where
  pub left : run f (n - i) i s ≡ e
  pub within : i ≤ n

module _ {S R : Type 0} {f : ℕ → S → Turn S R} {n : ℕ} {s : S} where
  pub turn_first : Left f n 0 s (run f n 0 s)
  turn_first = record { left = ap (λ (m : ℕ). run f m 0 s) (sub-zero n); within = omega arith }

one_turn : {S R : Type 0} (f : ℕ → S → Turn S R) (n i : ℕ) (s : S) → i < n → run f (n - i) i s ≡ next (run f (n - (i + 1)) (i + 1)) (f i s)
unfolding run
one_turn f n i s h = ap (λ (m : ℕ). run f m i s) (one_more n i h) ∙ ap (λ (k : ℕ). next (run f (n - (i + 1)) k) (f i s)) (sym (add-one i))

module _ {S R : Type 0} {f : ℕ → S → Turn S R} {n i : ℕ} {s : S} {e : Turn S R} where
  pub turn_on : {t : S} → Left f n i s e → i < n → f i s ≡ more t → Left f n (i + 1) t e
  turn_on l h q = record { left = sym (one_turn f n i s h ∙ ap (next (run f (n - (i + 1)) (i + 1))) q) ∙ l.left; within = omega arith }

  pub turn_off : {r : R} → Left f n i s e → i < n → f i s ≡ stop r → e ≡ stop r
  turn_off l h q = sym l.left ∙ one_turn f n i s h ∙ ap (next (run f (n - (i + 1)) (i + 1))) q

  pub turn_end : Left f n i s e → n ≤ i → e ≡ more s
  unfolding run
  turn_end l h = sym l.left ∙ ap (λ (m : ℕ). run f m i s) (no_more n i h)

-- ---- a walk that never stops is one that may

-- f as turns that always go on
abbrev pub always : {S : Type 0} → (ℕ → S → S) → ℕ → S → Turn S ⊥
always f i s = more (f i s)

pub run_always : {S : Type 0} (f : ℕ → S → S) (n i : ℕ) (s : S) → run (always f) n i s ≡ more (fold f n i s)
unfolding run fold
run_always f zero i s = refl
run_always f (suc n) i s = run_always f n (suc i) (f i s)

module _ {S : Type 0} {f : ℕ → S → S} {n : ℕ} {s : S} where
  pub fold_first : Left (always f) n 0 s (more (fold f n 0 s))
  fold_first = record { left = ap (λ (m : ℕ). run (always f) m 0 s) (sub-zero n) ∙ run_always f n 0 s; within = omega arith }

module _ {S : Type 0} {f : ℕ → S → S} {n i : ℕ} {s e : S} where
  pub fold_end : Left (always f) n i s (more e) → n ≤ i → e ≡ s
  fold_end l h = let q : more e ≡ more s = turn_end l h in cc
