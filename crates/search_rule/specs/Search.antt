-- Which ways count, and the search for the first of them in a world of n slots. Definitions only.
use Rattle.std.specs.Prelude.{ℕ, zero, suc, ◌/◌, ◌%◌, Bool, false, cond, ◌&&◌, List, [], ◌∷◌, eqb, ℤ, pos}
use Rattle.std.proofs.Math.IntN.{pred_ℤ}
use Rattle.base_turns.specs.Turns.{Turn, more, stop, run}
use Rattle.game_refusals.specs.Refusals.{bad_map}
use Rattle.game_records.specs.declared.PlayerInput.{PlayerInput}
use Rattle.map_tiles.specs.Map.{is_map}
use Rattle.map_tiles.specs.declared.tiles.Sides.{Sides}
use Rattle.character.specs.Tick.{slot_at}
use Rattle.world.specs.Calls.{place_of, input}
use Rattle.world.specs.Demand3.{record_at}
use Rattle.world.specs.Readers.{seated}
use Rattle.world.specs.Run.{input_of}
use Rattle.world.specs.Step.{step}
use Rattle.world.specs.declared.Published.{Published}
use Rattle.world.specs.Answered.{Stepped}
use Rattle.world.specs.declared.World.{World}
use Rattle.game_records.specs.Numbers.{same_number}
use Rattle.search_rule.specs.Ways.{Way, longest}
use Rattle.search_rule.specs.declared.Buttons.{Buttons}
use Rattle.search_rule.specs.declared.Goal.{Goal}
use Rattle.std.specs.Prelude.{Result, Ok, Err}
use Rattle.character.specs.declared.Slot.{Slot}
use Rattle.game_refusals.specs.declared.Refusal.{Refusal}
use Rattle.game_refusals.specs.Refusals.{number_of}

-- ---- one step of a way

-- its input: what is pressed, hook 0 and the stored target
abbrev pub input_of_way : Goal → Buttons → PlayerInput
input_of_way g b = input_of b.direction g.target_x g.target_y b.jump (pos 0)

-- that input for the one id, then a step; other inputs are as stored
unfoldable pub step_with : ℕ → Sides → List ℕ → Goal → World → Buttons → Stepped
step_with n s ts g w b = step n (input n w g.id (input_of_way g b)).world s ts

-- a record of somebody, with that x and y
abbrev pub is_at : Goal → Published → Bool
is_at g p = p.present && (same_number p.core.x g.x && same_number p.core.y g.y)

-- the last step leads there: it isn't refused and has that record, also where it removes the id
unfoldable pub arrives : ℕ → Goal → Stepped → Bool
arrives n g a = eqb a.number 0 && is_at g (record_at a.records (place_of n g.id))

-- a step before the last one lets the way go on: it isn't refused, and the id isn't lost to spikes
unfoldable pub goes_on : ℕ → Goal → Stepped → Bool
goes_on n g a = eqb a.number 0 && (slot_at a.world.slots (place_of n g.id)).present

-- a way counts: no step is refused, the id is there before each, and the last leads there
abbrev pub counts : ℕ → Sides → List ℕ → Goal → World → Way → Bool
counts n s ts g w [] = false
counts n s ts g w (b ∷ []) = arrives n g (step_with n s ts g w b)
counts n s ts g w (b ∷ c ∷ u) = let a = step_with n s ts g w b in goes_on n g a && counts n s ts g a.world (c ∷ u)

-- ---- the search: a way that counts stops it

abbrev pub Found : Type 0
Found = Turn (Unit {0}) Way

abbrev pub nothing : Found
nothing = more tt

-- three directions, each with and without jump
abbrev pub choices : ℕ
choices = 6

-- by rising direction, then by rising jump
unfoldable pub buttons_at : ℕ → Buttons
buttons_at i = record { direction = pred_ℤ (pos (i / 2)); jump = pos (i % 2) }

-- what is found after b, with b in front
abbrev pub following : Buttons → Found → Found
following b (more z) = more z
following b (stop u) = stop (b ∷ u)

-- each first step in turn, where f finds what follows it
abbrev pub each_first : ℕ → Sides → List ℕ → Goal → World → (Stepped → Found) → Found
each_first n s ts g w f = run (λ i z. following (buttons_at i) (f (step_with n s ts g w (buttons_at i)))) choices 0 tt

-- after the last step nothing follows
abbrev pub ending : ℕ → Goal → Stepped → Found
ending n g a = cond (arrives n g a) (stop []) nothing

-- after any other what f finds from there
abbrev pub going_on : ℕ → Goal → (World → Found) → Stepped → Found
going_on n g f a = cond (goes_on n g a) (f a.world) nothing

-- the first way that counts of those with m steps before the last
unfoldable pub first_among : ℕ → Sides → List ℕ → Goal → ℕ → World → Found
first_among n s ts g zero w = each_first n s ts g w (ending n g)
first_among n s ts g (suc m) w = each_first n s ts g w (going_on n g (first_among n s ts g m))

-- the shorter ways first
unfoldable pub first_way : ℕ → Sides → List ℕ → Goal → World → Found
first_way n s ts g w = run (λ m z. first_among n s ts g m w) longest 0 tt

-- ---- the call

-- the id's record is to have that x and y; the target is the one that is stored for it
abbrev pub goal_of : ℤ → ℤ → ℤ → PlayerInput → Goal
goal_of id x y i = record { id = id; x = x; y = y; target_x = i.target_x; target_y = i.target_y }

-- a refusal's number, none, or the way that is shown
pub data SearchAnswer : Type 0 where
  Refused : ℕ → SearchAnswer
  NoWay : SearchAnswer
  WayTo : Way → SearchAnswer

abbrev pub answer_of : Found → SearchAnswer
answer_of (more z) = NoWay
answer_of (stop u) = WayTo u

-- 2 where the id has no slot, 8 where nobody is there
abbrev pub search_from : ℕ → Sides → List ℕ → World → ℤ → ℤ → ℤ → Result Slot Refusal → SearchAnswer
search_from n s ts w id x y (Err e) = Refused (number_of e)
search_from n s ts w id x y (Ok slot) = answer_of (first_way n s ts (goal_of id x y slot.input) w)

-- 1 where the map is none
unfoldable pub search : ℕ → Sides → List ℕ → World → ℤ → ℤ → ℤ → SearchAnswer
search n s ts w id x y = cond (is_map s ts) (search_from n s ts w id x y (seated n w id)) (Refused bad_map)
