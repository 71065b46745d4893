-- A run is the states after its steps, up to one that is refused. Assumes nothing.
use Prim.Native.Nat.{ℕ, zero, suc, ◌+◌, ◌<◌}
use mathlib.Core.Bool.{Bool, true, false, cond}
use mathlib.Core.List.{List}
use mathlib.Core.Logic.{⊎_elim}
use mathlib.Core.Path.{◌≡◌, refl, sym, ap, ◌∙◌, subst}
use native.Mathlib.Omega.{arith}
use lib.Dec.{eqb}
use lib.ListN.{length}
use borrow.Author.Tests.{eqb-true, eqb-false}
use Rattle.base_turns.specs.Turns.{Turn, more, stop, next, run}
use Rattle.base_turns.proofs.Last.{run_last}
use Rattle.map_tiles.specs.declared.tiles.Sides.{Sides}
use Rattle.world.proofs.Seats.{last_or_below}
use Rattle.trial_rule.specs.Trial.{Trying, step_from, after_step, try_turn, tried_of, tried}
use Rattle.trial_rule.specs.Laws.{state_after, StepsDone, CountsSteps}
use Rattle.trial_rule.specs.declared.Tried.{Tried}
use Rattle.trial_rule.proofs.Players.{noted_full}

module _ (n : ℕ) (s : Sides) (ts : List ℕ) (u : Trying) where
  abbrev at : ℕ → Trying
  at = state_after n s ts u

  abbrev number_of : ℕ → ℕ
  number_of k = (step_from n s ts (at k)).number

  pub state_full : length u.players ≡ n → (k : ℕ) → length (at k).players ≡ n
  state_full h zero = h
  state_full h (suc k) = noted_full n s (suc k) (step_from n s ts (at k)).records (at k).players (state_full h k)

  -- what a run of m steps has come to
  Came : ℕ → Turn Trying Tried → Type 0
  Came m (more t) = (t ≡ at m) × ((k : ℕ) → k < m → number_of k ≡ 0)
  Came m (stop r) = (r.steps < m) × (r.players ≡ (at r.steps).players) × ((k : ℕ) → k < r.steps → number_of k ≡ 0) × (number_of r.steps ≡ 0 → ⊥)

  turn : (m : ℕ) (b : Bool) → eqb (number_of m) 0 ≡ b → ((k : ℕ) → k < m → number_of k ≡ 0) → Came (suc m) (cond b (more (after_step n s ts m (at m))) (stop (record { steps = m; players = (at m).players })))
  unfolding Came
  turn m true e f = (refl, λ k l. ⊎_elim (λ q. ap number_of q ∙ eqb-true (number_of m) 0 e) (f k) (last_or_below k m l))
  turn m false e f = (omega arith, refl, f, eqb-false (number_of m) 0 e)

  one_more : (m : ℕ) (a : Turn Trying Tried) → Came m a → Came (suc m) (next (try_turn n s ts (m + 0)) a)
  unfolding Came
  one_more m (more t) h = subst (λ (v : Trying). Came (suc m) (try_turn n s ts (m + 0) v)) (sym h.0) (subst (λ (j : ℕ). Came (suc m) (try_turn n s ts j (at m))) (omega arith) (turn m (eqb (number_of m) 0) refl h.1))
  one_more m (stop r) h = (omega (arith, h.0), h.1, h.2, h.3)

  came : (m : ℕ) → Came m (run (try_turn n s ts) m 0 u)
  unfolding Came run
  came zero = (refl, λ k l. absurd (omega arith))
  came (suc m) = subst (Came (suc m)) (sym (run_last (try_turn n s ts) m 0 u)) (one_more m (run (try_turn n s ts) m 0 u) (came m))

  -- the players told are those of the last state
  pub record Ended (m : ℕ) (r : Tried) : Type 0 where
    pub players : r.players ≡ (at r.steps).players
    pub done : StepsDone n s ts u m r.steps

  pub ended : (m : ℕ) → Ended m (tried n s ts m u)
  unfolding tried Came
  ended m = go (run (try_turn n s ts) m 0 u) (came m)
    where
      go : (a : Turn Trying Tried) → Came m a → Ended m (tried_of m a)
      go (more t) h = record { players = ap (λ (v : Trying). v.players) h.0; done = record { within = omega arith; accepted = h.1; refused = λ l. absurd (omega arith) } }
      go (stop r) h = record { players = h.1; done = record { within = omega (arith, h.0); accepted = h.2; refused = λ l. h.3 } }

pub counts_steps : (n : ℕ) → CountsSteps n
counts_steps n s ts u m = (ended n s ts u m).done
