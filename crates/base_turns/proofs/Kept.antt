-- What each turn keeps, the walk keeps: a fact of the state, and a relation of two walks. Assumes nothing.
use Prim.Native.Nat.{ℕ, zero, suc, ◌+◌}
use mathlib.Core.Path.{subst}
use native.Mathlib.Omega.{arith}
use Rattle.base_turns.specs.Turns.{Turn, more, stop, next, run, fold}

-- P of the state that a turn goes on with, Q of the answer that it stops with
abbrev pub Ends : {S R : Type 0} → (S → Type 0) → (R → Type 0) → Turn S R → Type 0
Ends P Q (more s) = P s
Ends P Q (stop r) = Q r

-- two turns end alike: both go on, with states that P relates, or both stop, with answers that Q relates
abbrev pub Alike : {S S' R R' : Type 0} → (S → S' → Type 0) → (R → R' → Type 0) → Turn S R → Turn S' R' → Type 0
Alike P Q (more s) (more t) = P s t
Alike P Q (stop r) (stop q) = Q r q
Alike P Q (more s) (stop q) = ⊥
Alike P Q (stop r) (more t) = ⊥

module _ {S R : Type 0} (f : ℕ → S → Turn S R) (P : ℕ → S → Type 0) (Q : R → Type 0) where
  next-kept : (n i : ℕ) (t : Turn S R) → ((s : S) → P (suc i) s → Ends (P (n + suc i)) Q (run f n (suc i) s)) → Ends (P (suc i)) Q t → Ends (P (suc n + i)) Q (next (run f n (suc i)) t)
  next-kept n i (more s) k h = subst (λ (j : ℕ). Ends (P j) Q (run f n (suc i) s)) (omega arith) (k s h)
  next-kept n i (stop r) k h = h

  pub run-kept : ((i : ℕ) (s : S) → P i s → Ends (P (suc i)) Q (f i s)) → (n i : ℕ) (s : S) → P i s → Ends (P (n + i)) Q (run f n i s)
  unfolding run
  run-kept k zero i s p = subst (λ (j : ℕ). P j s) (omega arith) p
  run-kept k (suc n) i s p = next-kept n i (f i s) (run-kept k n (suc i)) (k i s p)

module _ {S S' R R' : Type 0} (f : ℕ → S → Turn S R) (g : ℕ → S' → Turn S' R') (P : S → S' → Type 0) (Q : R → R' → Type 0) where
  next_alike : (n i : ℕ) (a : Turn S R) (b : Turn S' R') → ((s : S) (t : S') → P s t → Alike P Q (run f n (suc i) s) (run g n (suc i) t)) → Alike P Q a b → Alike P Q (next (run f n (suc i)) a) (next (run g n (suc i)) b)
  next_alike n i (more s) (more t) k h = k s t h
  next_alike n i (stop r) (stop q) k h = h
  next_alike n i (more s) (stop q) k h = absurd h
  next_alike n i (stop r) (more t) k h = absurd h

  pub run_alike : ((i : ℕ) (s : S) (t : S') → P s t → Alike P Q (f i s) (g i t)) → (n i : ℕ) (s : S) (t : S') → P s t → Alike P Q (run f n i s) (run g n i t)
  unfolding run
  run_alike k zero i s t p = p
  run_alike k (suc n) i s t p = next_alike n i (f i s) (g i t) (run_alike k n (suc i)) (k i s t p)

pub fold-kept : {S : Type 0} (f : ℕ → S → S) (P : S → Type 0) → ((i : ℕ) (s : S) → P s → P (f i s)) → (n i : ℕ) (s : S) → P s → P (fold f n i s)
unfolding fold
fold-kept f P k zero i s p = p
fold-kept f P k (suc n) i s p = fold-kept f P k n (suc i) (f i s) (k i s p)
