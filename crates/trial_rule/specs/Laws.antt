-- What is claimed of trials, for every number of slots. Definitions only; proofs/ proves each.
use Rattle.std.specs.Prelude.{ℕ, zero, suc, ◌*◌, ◌≤◌, ◌<◌, true, false, List, [], ◌∷◌, ◌++◌, map, ◌↔◌, ◌≡◌, ℤ, pos, negsuc, length, take, drop}
use Rattle.base_turns.specs.Turns.{more}
use Rattle.game_tuning.specs.Tuning.{tuning_count}
use Rattle.map_corners.specs.Tile.{tile_at}
use Rattle.map_tiles.specs.Map.{count}
use Rattle.map_tiles.specs.declared.tiles.Sides.{Sides}
use Rattle.character.specs.Slot.{no_input, with_input}
use Rattle.character.specs.Tick.{slot_at}
use Rattle.world.specs.World.{fresh}
use Rattle.world.specs.Calls.{place_of, point_of}
use Rattle.world.specs.Demand3.{record_at}
use Rattle.world.specs.Run.{input_of, after}
use Rattle.world.specs.Step.{step}
use Rattle.world.specs.declared.call.Call.{Call}
use Rattle.world.specs.declared.call.Call.TheVariants.{Join, Leave, Input, Step, Tune}
use Rattle.world.specs.declared.Published.{Published}
use Rattle.world.specs.declared.World.{World}
use Rattle.world_numbers.specs.Encoding.{flag}
use Rattle.game_records.specs.Numbers.{same_number}
use Rattle.game_records.specs.declared.PlayerInput.{PlayerInput}
use Rattle.trial_rule.specs.Trial.{Entrant, target_column, target_row, distance_to, Trying, player_at, input_for, inputs_for, step_from, after_step, towards, tried, enter_all, nobody_yet, tuned_to}
use Rattle.trial_rule.specs.Calls.{row_count, tunings_in, entrants, tried_numbers, has_hold, trial_in}
use Rattle.trial_rule.specs.declared.Player.{Player}
use Rattle.trial_rule.specs.declared.Tried.{Tried}

-- ---- the rows of the result

-- the i-th of rows of k numbers
abbrev pub row_of : ℕ → ℕ → List ℤ → List ℤ
row_of k i l = take k (drop (k * i) l)

-- an accepted trial: the joins are accepted, and each row tells the run of its own tuning from there
pub record Tells (n : ℕ) (s : Sides) (ts : List ℕ) (joins targets tunings : List ℤ) (steps : ℤ) (result : List ℤ) : Type 0 where
  pub start : Trying
  pub accepted : enter_all n s ts (entrants joins targets) (nobody_yet n) ≡ more start
  pub rows : (i : ℕ) → i < tunings_in tunings → row_of (row_count n) i result ≡ tried_numbers (tried n s ts (count steps) (tuned_to (row_of tuning_count i tunings) start))

abbrev pub RowsTell : ℕ → Type 0
RowsTell n = (s : Sides) (ts : List ℕ) (joins targets tunings : List ℤ) (steps : ℤ) (result : List ℤ) → let a = trial_in n s ts joins targets tunings steps result in a.number ≡ 0 → Tells n s ts joins targets tunings steps a.result

-- two trials of the same joins, targets and steps on one map: equal tunings have equal rows, whatever the other tunings are, and wherever each stands
abbrev pub Independent : ℕ → Type 0
Independent n = (s : Sides) (ts : List ℕ) (joins targets : List ℤ) (steps : ℤ) (tunings result other_tunings other_result : List ℤ) (i j : ℕ) →
    let a = trial_in n s ts joins targets tunings steps result in
    let b = trial_in n s ts joins targets other_tunings steps other_result in
    a.number ≡ 0 → b.number ≡ 0 → i < tunings_in tunings → j < tunings_in other_tunings → row_of tuning_count i tunings ≡ row_of tuning_count j other_tunings → row_of (row_count n) i a.result ≡ row_of (row_count n) j b.result

-- ---- the steps of a run

-- the state after k steps from u
abbrev pub state_after : ℕ → Sides → List ℕ → Trying → ℕ → Trying
state_after n s ts u zero = u
state_after n s ts u (suc k) = after_step n s ts k (state_after n s ts u k)

-- the steps told are accepted, and there are as many as asked for, or the next one is refused
pub record StepsDone (n : ℕ) (s : Sides) (ts : List ℕ) (u : Trying) (m steps : ℕ) : Type 0 where
  pub within : steps ≤ m
  pub accepted : (k : ℕ) → k < steps → (step_from n s ts (state_after n s ts u k)).number ≡ 0
  pub refused : steps < m → (step_from n s ts (state_after n s ts u steps)).number ≡ 0 → ⊥

abbrev pub CountsSteps : ℕ → Type 0
CountsSteps n = (s : Sides) (ts : List ℕ) (u : Trying) (m : ℕ) → StepsDone n s ts u m (tried n s ts m u).steps

-- ---- what a player was told

-- the record of the seat j that the step after k steps takes
abbrev pub record_after : ℕ → Sides → List ℕ → Trying → ℕ → ℕ → Published
record_after n s ts u j k = record_at (step_from n s ts (state_after n s ts u k)).records j

-- v is f of e's place after k steps: at the start that of its join, then that of the record of the k-th step, where it took one
abbrev pub IsAfter : {A : Type 0} → ℕ → Sides → List ℕ → Trying → Entrant → (ℤ → ℤ → A) → ℕ → A → Type 0
IsAfter n s ts u e f zero v = v ≡ f e.x e.y
IsAfter n s ts u e f (suc k) v = let r = record_after n s ts u (place_of n e.id) k in (r.present ≡ true) × (v ≡ f r.core.x r.core.y)

-- the distance from e's target of a place
abbrev pub distance_of : Sides → Entrant → ℤ → ℤ → ℕ
distance_of s e x y = distance_to s (target_column s e) (target_row s e) (point_of x y)

-- the distance told is that of the step told, which is the first that reached it, and no step of the run has a smaller one
pub record Smallest (n : ℕ) (s : Sides) (ts : List ℕ) (u : Trying) (e : Entrant) (r : Tried) (p : Player) : Type 0 where
  pub joined : p.joined ≡ true
  pub done : p.step ≤ r.steps
  pub reached : IsAfter n s ts u e (distance_of s e) p.step p.distance
  pub first : (k d : ℕ) → k < p.step → IsAfter n s ts u e (distance_of s e) k d → p.distance < d
  pub least : (k d : ℕ) → k ≤ r.steps → IsAfter n s ts u e (distance_of s e) k d → p.distance ≤ d

-- every entrant of every run
abbrev pub TellsSmallest : ℕ → Type 0
TellsSmallest n = (s : Sides) (ts : List ℕ) (before later : List Entrant) (e : Entrant) (t : Trying) (zs : List ℤ) (m : ℕ) → enter_all n s ts (before ++ (e ∷ later)) (nobody_yet n) ≡ more t →
    let u = tuned_to zs t in
    let r = tried n s ts m u in
    Smallest n s ts u e r (player_at r.players (place_of n e.id))

-- where nobody joined nothing is told
abbrev pub TellsNobody : ℕ → Type 0
TellsNobody n = (s : Sides) (ts : List ℕ) (es : List Entrant) (t : Trying) (zs : List ℤ) (m j : ℕ) → j < n → enter_all n s ts es (nobody_yet n) ≡ more t → ((before later : List Entrant) (e : Entrant) → es ≡ before ++ (e ∷ later) → place_of n e.id ≡ j → ⊥) → (player_at (tried n s ts m (tuned_to zs t)).players j).joined ≡ false

-- ---- what a player does

-- -1 just where the target's column is less than its own, 1 just where it is greater, 0 just where both are equal
pub record Towards (own target : ℕ) : Type 0 where
  pub left : (towards own target ≡ negsuc 0) ↔ (target < own)
  pub right : (towards own target ≡ pos 1) ↔ (own < target)
  pub equal : (towards own target ≡ pos 0) ↔ (target ≡ own)

abbrev pub GoesTowards : Type 0
GoesTowards = (own target : ℕ) → Towards own target

-- the input that an input call stores
abbrev pub stored_by : Call → PlayerInput
stored_by (Join id x y) = no_input
stored_by (Leave id) = no_input
stored_by (Input id d x y jump hook) = input_of d x y jump hook
stored_by (Tune index z) = no_input
stored_by Step = no_input

-- the step from the state t is called on a world in which everybody present has stored its own input, and that is otherwise as in t
pub record StepStored (n : ℕ) (s : Sides) (ts : List ℕ) (t : Trying) : Type 0 where
  pub world : World
  pub called : step_from n s ts t ≡ step n world s ts
  pub stored : (j : ℕ) → j < n → (slot_at t.world.slots j).present ≡ true → slot_at world.slots j ≡ with_input (slot_at t.world.slots j) (stored_by (input_for s t j))
  pub absent : (j : ℕ) → j < n → (slot_at t.world.slots j).present ≡ false → slot_at world.slots j ≡ slot_at t.world.slots j
  pub tunings : world.tunings ≡ t.world.tunings

-- in every state, whatever the map and however many players
abbrev pub InputsStored : ℕ → Type 0
InputsStored n = (s : Sides) (ts : List ℕ) (t : Trying) → StepStored n s ts t

-- e's input in the state t, with a jump
abbrev pub input_of_trial : ℕ → Sides → Trying → Entrant → ℤ → Call
input_of_trial n s t e jump = let j = place_of n e.id in Input (pos j) (towards (tile_at s.width (slot_at t.world.slots j).character.pos.x) (target_column s e)) (pos 0) (pos 0) jump (pos 0)

-- jump is 0 before step 1, and then 1 just after a step whose record's x is that of the one before, in step 1 that of the join
abbrev pub JumpsAfterStay : ℕ → Type 0
JumpsAfterStay n = (s : Sides) (ts : List ℕ) (before later : List Entrant) (e : Entrant) (t : Trying) (zs : List ℤ) → enter_all n s ts (before ++ (e ∷ later)) (nobody_yet n) ≡ more t →
    let u = tuned_to zs t in
    let j = place_of n e.id in
    (input_for s u j ≡ input_of_trial n s u e (pos 0))
    × ((k : ℕ) (x y : ℤ) → IsAfter n s ts u e (λ a b. a) k x → IsAfter n s ts u e (λ a b. a) (suc k) y → input_for s (state_after n s ts u (suc k)) j ≡ input_of_trial n s (state_after n s ts u (suc k)) e (flag (same_number x y)))

-- ---- a run by calls

abbrev pub joins_of : List Entrant → List Call
joins_of es = map (λ (e : Entrant). Join e.id e.x e.y) es

-- a tune for each number, the first with the index i
abbrev pub tunes_of : ℕ → List ℤ → List Call
tunes_of i [] = []
tunes_of i (z ∷ zs) = Tune (pos i) z ∷ tunes_of (suc i) zs

-- the inputs and steps of k steps from u
abbrev pub steps_of : ℕ → Sides → List ℕ → Trying → ℕ → List Call
steps_of n s ts u zero = []
steps_of n s ts u (suc k) = steps_of n s ts u k ++ (inputs_for n s (state_after n s ts u k) ++ (Step ∷ []))

-- the world of a run is the one that its calls reach from a fresh world
abbrev pub RunsByCalls : ℕ → Type 0
RunsByCalls n = (s : Sides) (ts : List ℕ) (es : List Entrant) (t : Trying) (zs : List ℤ) (k : ℕ) → enter_all n s ts es (nobody_yet n) ≡ more t → length zs ≡ tuning_count → has_hold zs ≡ true →
    let u = tuned_to zs t in
    (state_after n s ts u k).world ≡ after n s ts (fresh n) (joins_of es ++ (tunes_of 0 zs ++ steps_of n s ts u k))
