-- The number that a trial answers, exactly and in its order, by plain conditions. Definitions only; proofs/Answers.antt proves it.
use Rattle.std.specs.Prelude.{ℕ, zero, suc, ◌+◌, ◌*◌, ◌≤◌, ◌<◌, List, [], ◌∷◌, ◌++◌, ◌↔◌, ◌≡◌, ℤ, pos, length, ◌≤ℤ◌}
use Rattle.game_records.specs.Numbers.{number_at}
use Rattle.map_tiles.specs.declared.tiles.Sides.{Sides}
use Rattle.world.specs.World.{fresh}
use Rattle.world.specs.Answers.{IsMap}
use Rattle.world.specs.Run.{ran, after}
use Rattle.world.specs.declared.call.Call.{Call}
use Rattle.world.specs.declared.call.Call.TheVariants.{Join}
use Rattle.trial_rule.specs.Calls.{trial_in}

-- ---- the conditions

-- three numbers for each player's join, two for its target, nineteen for each tuning, and a row of 1 + 3 n numbers for each tuning's result
pub record Whole (n : ℕ) (joins targets tunings result : List ℤ) : Type 0 where
  pub players : ℕ
  pub tuned : ℕ
  pub joined : length joins ≡ 3 * players
  pub aimed : length targets ≡ 2 * players
  pub held : length tunings ≡ 19 * tuned
  pub told : length result ≡ (1 + 3 * n) * tuned

-- one tuning to eight, and 0 to 3,000 steps
pub record Within (tuned : ℕ) (steps : ℤ) : Type 0 where
  pub least : 1 ≤ tuned
  pub most : tuned ≤ 8
  pub forward : pos 0 ≤ℤ steps
  pub short : steps ≤ℤ pos 3000

-- the hold of each tuning, its number at index 18, is one of 1 to 60
abbrev pub Holds : ℕ → List ℤ → Type 0
Holds tuned tunings = (i : ℕ) → i < tuned → let z = number_at tunings (19 * i + 18) in (pos 1 ≤ℤ z) × (z ≤ℤ pos 60)

-- ---- the joins

-- the k-th join: id, x and y
abbrev pub join_of : List ℤ → ℕ → Call
join_of joins k = Join (number_at joins (3 * k)) (number_at joins (3 * k + 1)) (number_at joins (3 * k + 2))

-- the joins before the k-th
abbrev pub joins_before : List ℤ → ℕ → List Call
joins_before joins zero = []
joins_before joins (suc k) = joins_before joins k ++ (join_of joins k ∷ [])

-- the number that the k-th join answers after the joins before it, from a fresh world
abbrev pub join_number : ℕ → Sides → List ℕ → List ℤ → ℕ → ℕ
join_number n s ts joins k = (ran n s ts (after n s ts (fresh n) (joins_before joins k)) (join_of joins k)).number

-- k is the number of the first refused join, by the numbers of all
pub record FirstRefused (numbers : ℕ → ℕ) (players k : ℕ) : Type 0 where
  pub at : ℕ
  pub within : at < players
  pub before : (i : ℕ) → i < at → numbers i ≡ 0
  pub number : numbers at ≡ k
  pub refused : k ≡ 0 → ⊥

-- ---- the claim

module _ (n : ℕ) (s : Sides) (ts : List ℕ) (joins targets tunings : List ℤ) (steps : ℤ) (result : List ℤ) where
  -- the lengths of what is lent fit each other
  abbrev pub Lengths : Type 0
  Lengths = Whole n joins targets tunings result

  -- why a trial answers k, in the order of its tests: 17, 1, 15, 16, the first refused join's own number, or 0
  pub data TrialAnswers (k : ℕ) : Type 0 where
    not_whole : k ≡ 17 → (Lengths → ⊥) → TrialAnswers k
    no_map : k ≡ 1 → Lengths → (IsMap s ts → ⊥) → TrialAnswers k
    no-trial : k ≡ 15 → (f : Lengths) → IsMap s ts → (Within f.tuned steps → ⊥) → TrialAnswers k
    no_hold : k ≡ 16 → (f : Lengths) → IsMap s ts → Within f.tuned steps → (Holds f.tuned tunings → ⊥) → TrialAnswers k
    refused : (f : Lengths) → IsMap s ts → Within f.tuned steps → Holds f.tuned tunings → FirstRefused (join_number n s ts joins) f.players k → TrialAnswers k
    accepted : k ≡ 0 → (f : Lengths) → IsMap s ts → Within f.tuned steps → Holds f.tuned tunings → ((i : ℕ) → i < f.players → join_number n s ts joins i ≡ 0) → TrialAnswers k

-- a trial answers k exactly when there is a reason for k, whatever it is lent
abbrev pub AnswersOfTrials : ℕ → Type 0
AnswersOfTrials n = (s : Sides) (ts : List ℕ) (joins targets tunings : List ℤ) (steps : ℤ) (result : List ℤ) (k : ℕ) → ((trial_in n s ts joins targets tunings steps result).number ≡ k) ↔ TrialAnswers n s ts joins targets tunings steps result k
