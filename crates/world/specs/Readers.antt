-- What is read of a world of n slots; no reader changes it. Definitions only.
use Rattle.std.specs.Prelude.{ℕ, cond, ltb, ℤ, pos, get_or}
use Rattle.game_refusals.specs.Refusals.{bad_id, bad_tuning, not_present, tick_too_large}
use Rattle.game_tuning.specs.Tuning.{tuning_count, told_tuning}
use Rattle.character.specs.Records.{to_net}
use Rattle.character.specs.Tick.{slot_at}
use Rattle.character.specs.declared.Slot.{Slot}
use Rattle.world.specs.Calls.{place_of}
use Rattle.world.specs.declared.World.{World}
use Rattle.world.specs.declared.reading.Query.{Query}
use Rattle.world.specs.declared.reading.Query.TheVariants as query
use Rattle.world.specs.ReadAnswer.{ReadAnswer}
use Rattle.world.specs.ReadAnswer as reading
use Rattle.std.specs.Prelude.{Result, Ok, Err}
use Rattle.game_records.specs.declared.CharacterCore.{CharacterCore}
use Rattle.game_refusals.specs.declared.Refusal.{Refusal}
use Rattle.game_refusals.specs.declared.Refusal.TheVariants.{BadId, TickTooLarge, Absent}
use Rattle.game_refusals.specs.Refusals.{number_of}

-- who is at an id: 2 where it has no slot, 8 where nobody is there
unfoldable pub seated : ℕ → World → ℤ → Result Slot Refusal
seated n w id = let k = place_of n id in cond (ltb k n) (cond (slot_at w.slots k).present (Ok (slot_at w.slots k)) (Err Absent)) (Err BadId)

-- f of who is there
abbrev pub of_seated : (Slot → ReadAnswer) → Result Slot Refusal → ReadAnswer
of_seated f (Err e) = reading.Refused (number_of e)
of_seated f (Ok x) = f x

-- 10 where the hook has held somebody for more ticks than a record holds
abbrev pub of_record : Result CharacterCore Refusal → ReadAnswer
of_record (Err e) = reading.Refused tick_too_large
of_record (Ok c) = reading.Record c

-- the record of a slot as it now stands, which need not be the one last published: a leave may have released its hook
abbrev pub record_now : Slot → ReadAnswer
record_now x = of_record (to_net x.character)

-- what `grounded` answered in its last tick
abbrev pub mark_now : Slot → ReadAnswer
mark_now x = reading.FloorMark x.grounded

-- its stored input
abbrev pub input_now : Slot → ReadAnswer
input_now x = reading.PlayerInput x.input

-- as a reader is told it; 3 where the index has no tuning
unfoldable pub tuning_now : World → ℤ → ReadAnswer
tuning_now w index = let k = place_of tuning_count index in cond (ltb k tuning_count) (reading.Tuning (told_tuning k (get_or w.tunings k (pos 0)))) (reading.Refused bad_tuning)

-- what a query is told
abbrev pub read_of : ℕ → World → Query → ReadAnswer
read_of n w (query.Record id) = of_seated record_now (seated n w id)
read_of n w (query.FloorMark id) = of_seated mark_now (seated n w id)
read_of n w (query.PlayerInput id) = of_seated input_now (seated n w id)
read_of n w (query.Tuning index) = tuning_now w index
