-- Step on a world of n slots. Definitions only.
use Rattle.std.specs.Prelude.{ℕ, true, false, cond, List, [], pos, set, replicate}
use Rattle.base_turns.specs.Turns.{Turn, more, stop, next, run}
use Rattle.map_tiles.specs.Map.{is_map}
use Rattle.map_tiles.specs.declared.tiles.Sides.{Sides}
use Rattle.game_tuning.specs.Tuning.{tuning_of}
use Rattle.game_tuning.specs.declared.Tuning.{Tuning}
use Rattle.game_records.specs.declared.CharacterCore.{CharacterCore}
use Rattle.game_refusals.specs.Refusals.{bad_map, too_far, tick_too_large}
use Rattle.character.specs.Slot.{with_character}
use Rattle.character.specs.Tick.{slot_at, after_pull, tick_at, ticked_slot}
use Rattle.character.specs.Walk.{move_at}
use Rattle.character.specs.declared.Character.{Character}
use Rattle.character.specs.declared.Slot.{Slot}
use Rattle.character.specs.Records.{to_net, from_net}
use Rattle.world.specs.Removal.{dying, remove_all, listed}
use Rattle.world.specs.declared.Published.{Published}
use Rattle.world.specs.Answered.{Stepped}
use Rattle.world.specs.declared.AfterStep.{AfterStep}
use Rattle.world.specs.declared.Records.{Records}
use Rattle.world.specs.declared.World.{World}
use Rattle.std.specs.Prelude.{Result, Ok, Err}
use Rattle.character.specs.declared.tick.AfterTick.{AfterTick}
use Rattle.game_refusals.specs.declared.Refusal.{Refusal}
use Rattle.game_refusals.specs.declared.Refusal.TheVariants.{TooFar, TickTooLarge}
use Rattle.game_refusals.specs.Refusals.{number_of}

-- the slot j with another character
abbrev pub put_back : List Slot → ℕ → Character → List Slot
put_back ss j c = set ss j (with_character (slot_at ss j) c)

-- ---- every present id by rising id ticks

-- the slots after the tick of the id j, or the number that refuses it
abbrev pub after_tick : List Slot → ℕ → Result AfterTick Refusal → Turn (List Slot) ℕ
after_tick ss j (Err e) = stop too_far
after_tick ss j (Ok a) = let us = after_pull ss a.pull in more (set us j (ticked_slot (slot_at us j) a))

abbrev pub tick_turn : ℕ → Sides → List ℕ → Tuning → ℕ → List Slot → Turn (List Slot) ℕ
tick_turn n s ts t j ss = cond (slot_at ss j).present (after_tick ss j (tick_at n (slot_at ss j).character j ss s ts (slot_at ss j).input t)) (more ss)

unfoldable pub tick_all : ℕ → List Slot → Sides → List ℕ → Tuning → Turn (List Slot) ℕ
tick_all n ss s ts t = run (tick_turn n s ts t) n 0 ss

-- ---- then by rising id each moves and is quantized

-- the slots, and the records that are published so far
pub record Moving : Type 0 where
  pub slots : List Slot
  pub records : List Published

-- no record: for a seat where nobody is
abbrev pub no_core : CharacterCore
no_core = record { tick = pos 0; x = pos 0; y = pos 0; vel_x = pos 0; vel_y = pos 0; angle = pos 0; direction = pos 0; jumped = pos 0; hooked_player = pos 0; hook_state = pos 0; hook_tick = record { 0 = pos 0 }; hook_x = pos 0; hook_y = pos 0; hook_dx = pos 0; hook_dy = pos 0 }

abbrev pub unpublished : Published
unpublished = record { present = false; core = no_core }

abbrev pub of_net : Result CharacterCore Refusal → Result CharacterCore Refusal
of_net (Err e) = Err TickTooLarge
of_net (Ok core) = Ok core

-- the record of what a move left, or the number that refuses it
unfoldable pub record_of : Result Character Refusal → Result CharacterCore Refusal
record_of (Err e) = Err TooFar
record_of (Ok c) = of_net (to_net c)

-- the record is published, and the id j is what it reads as
abbrev pub publish : Moving → ℕ → Result CharacterCore Refusal → Turn Moving ℕ
publish m j (Err e) = stop (number_of e)
publish m j (Ok core) = more (record { slots = put_back m.slots j (from_net core); records = set m.records j (record { present = true; core = core }) })

-- what `move_` gives the id j among the slots as they stand
abbrev pub move_in : ℕ → Sides → List ℕ → Tuning → List Slot → ℕ → Result Character Refusal
move_in n s ts t ss j = move_at n (slot_at ss j).character j ss s ts t

abbrev pub move_turn : ℕ → Sides → List ℕ → Tuning → ℕ → Moving → Turn Moving ℕ
move_turn n s ts t j m = cond (slot_at m.slots j).present (publish m j (record_of (move_in n s ts t m.slots j))) (more m)

-- nothing is published yet
abbrev pub moving_from : ℕ → List Slot → Moving
moving_from n ss = record { slots = ss; records = replicate n unpublished }

unfoldable pub move_all : ℕ → List Slot → Sides → List ℕ → Tuning → Turn Moving ℕ
move_all n ss s ts t = run (move_turn n s ts t) n 0 (moving_from n ss)

-- a run that a refusal stops, as the code answers it
abbrev pub turned : {A B : Type 0} → (A → B) → Result A Refusal → Turn B ℕ
turned f (Ok a) = more (f a)
turned f (Err e) = stop (number_of e)

-- ---- both on a map that is one, and who is removed

-- a refusal anywhere in a step gives the world as it was, no record, and nobody removed
abbrev pub step_refused : ℕ → World → ℕ → Stepped
step_refused n w k = record { number = k; world = w; records = replicate n unpublished; removed = listed n [] }

-- the Stepped of a call by value, where w is the world before it
abbrev pub stepped : ℕ → World → Result AfterStep Refusal → Stepped
stepped n w (Ok a) = record { number = 0; world = a.world; records = a.records; removed = a.removed }
stepped n w (Err refusal) = step_refused n w (number_of refusal)

-- the Stepped of a call made in place, where w is the world after it
abbrev pub stepped_in : ℕ → World → Result Records Refusal → Stepped
stepped_in n w (Ok a) = record { number = 0; world = w; records = a.records; removed = a.removed }
stepped_in n w (Err refusal) = step_refused n w (number_of refusal)

-- the records are taken, then whoever has a corner on a deadly tile is removed
abbrev pub step_answer : ℕ → World → Sides → List ℕ → Turn Moving ℕ → Stepped
step_answer n w s ts (stop k) = step_refused n w k
step_answer n w s ts (more m) =
    let ids = dying n s ts m.slots in
    record { number = 0; world = remove_all (record { slots = m.slots; tunings = w.tunings }) ids; records = m.records; removed = listed n ids }

unfoldable pub step_on : ℕ → World → Sides → List ℕ → Stepped
step_on n w s ts = let t = tuning_of w.tunings in step_answer n w s ts (next (λ ss. move_all n ss s ts t) (tick_all n w.slots s ts t))

-- refused with 1 where the map is none
unfoldable pub step : ℕ → World → Sides → List ℕ → Stepped
step n w s ts = cond (is_map s ts) (step_on n w s ts) (step_refused n w bad_map)
