-- The trial as a call on lent buffers of numbers: what it answers, and what it leaves in the result. A refusal leaves it as it was. Definitions only.
use Rattle.std.specs.Prelude.{ℕ, ◌+◌, ◌*◌, ◌/◌, ◌%◌, Bool, true, false, cond, ◌&&◌, List, [], ◌∷◌, leb, eqb, ℤ, pos, negsuc, length, get_or, take, replicate}
use Rattle.base_turns.specs.Turns.{Turn, more, stop}
use Rattle.game_refusals.specs.Refusals.{bad_map, bad_trial, bad_hold, bad_length}
use Rattle.game_tuning.specs.Tuning.{tuning_count, hook_hold, is_hold}
use Rattle.map_tiles.specs.Map.{is_map, count}
use Rattle.map_tiles.specs.declared.tiles.Sides.{Sides}
use Rattle.world_numbers.specs.Encoding.{each}
use Rattle.world_numbers.specs.Decoding.{each_in}
use Rattle.trial_rule.specs.Trial.{Entrant, trial}
use Rattle.trial_rule.specs.declared.Player.{Player}
use Rattle.trial_rule.specs.declared.Tried.{Tried}

-- ---- how many numbers there are

-- of a join: id, x and y
abbrev pub join_count : ℕ
join_count = 3

-- of a target: column and row
abbrev pub target_count : ℕ
target_count = 2

-- of a seat in the result: whether a player joined there, its smallest distance, and the first step that reached it
abbrev pub told_count : ℕ
told_count = 3

-- of a tuning's row in the result: the steps done, then every seat
abbrev pub row_count : ℕ → ℕ
row_count n = 1 + told_count * n

-- whole joins, a target for each, whole tunings and a row for each, by the lengths of the buffers
unfoldable pub are_whole : ℕ → ℕ → ℕ → ℕ → ℕ → Bool
are_whole n joins targets tunings result =
    eqb (joins % join_count) 0 && eqb targets (target_count * (joins / join_count)) && eqb (tunings % tuning_count) 0 && eqb result (row_count n * (tunings / tuning_count))

-- ---- what they say

-- each join with its target
abbrev pub entrants : List ℤ → List ℤ → List Entrant
entrants (id ∷ x ∷ y ∷ joins) (column ∷ row ∷ targets) = record { id = id; x = x; y = y; column = column; row = row } ∷ entrants joins targets
entrants [] targets = []
entrants (id ∷ []) targets = []
entrants (id ∷ x ∷ []) targets = []
entrants (id ∷ x ∷ y ∷ joins) [] = []
entrants (id ∷ x ∷ y ∷ joins) (column ∷ []) = []

-- how many tunings there are
abbrev pub tunings_in : List ℤ → ℕ
tunings_in tunings = length tunings / tuning_count

-- each of them
abbrev pub tuning_rows : List ℤ → List (List ℤ)
tuning_rows tunings = each_in (take tuning_count) tuning_count (tunings_in tunings) tunings

-- zeros where nobody joined
unfoldable pub player_numbers : Player → List ℤ
player_numbers p = cond p.joined (pos 1 ∷ pos p.distance ∷ pos p.step ∷ []) (replicate told_count (pos 0))

-- the row of a run
unfoldable pub tried_numbers : Tried → List ℤ
tried_numbers r = pos r.steps ∷ each player_numbers r.players

-- ---- refusal 15

-- at most as many steps as may be run
abbrev pub is_steps : ℤ → Bool
is_steps (pos m) = leb m 3000
is_steps (negsuc m) = false

-- one tuning to eight, and so many steps
unfoldable pub is_trial : ℕ → ℤ → Bool
is_trial tunings steps = leb 1 tunings && leb tunings 8 && is_steps steps

-- ---- refusal 16

-- a tuning's hold is one
abbrev pub has_hold : List ℤ → Bool
has_hold zs = is_hold (get_or zs hook_hold (pos 0))

-- every tuning's
abbrev pub have_holds : List (List ℤ) → Bool
have_holds [] = true
have_holds (zs ∷ rows) = has_hold zs && have_holds rows

-- the number that refuses a trial before its joins, 15 and then 16; 0 where neither does
unfoldable pub trial_fault : List ℤ → ℤ → ℕ
trial_fault tunings steps = cond (is_trial (tunings_in tunings) steps) (cond (have_holds (tuning_rows tunings)) 0 bad_hold) bad_trial

-- ---- the call

-- a number, and the result that is left
pub record LeftTrial : Type 0 where
  pub number : ℕ
  pub result : List ℤ

-- the rows of the runs, one after the other; where a join is refused, its number
abbrev pub trial_left : List ℤ → Turn (List Tried) ℕ → LeftTrial
trial_left result (more rs) = record { number = 0; result = each tried_numbers rs }
trial_left result (stop k) = record { number = k; result = result }

-- refused with 17 where a buffer has another length, with 1 where there is no map, with 15 where there are no tunings, too many, or too many steps, with 16 where a hold is none; then by its joins
unfoldable pub trial_in : ℕ → Sides → List ℕ → List ℤ → List ℤ → List ℤ → ℤ → List ℤ → LeftTrial
trial_in n s ts joins targets tunings steps result =
    cond (are_whole n (length joins) (length targets) (length tunings) (length result))
    (cond (is_map s ts)
    (cond (eqb (trial_fault tunings steps) 0)
    (trial_left result (trial n s ts (entrants joins targets) (tuning_rows tunings) (count steps)))
    (record { number = trial_fault tunings steps; result = result }))
    (record { number = bad_map; result = result }))
    (record { number = bad_length; result = result })
