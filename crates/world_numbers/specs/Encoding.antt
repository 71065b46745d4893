-- A world as a list of numbers, and the records of a step as one. Definitions only; the way back is `decoding` (world_numbers/specs/Decoding.antt).
use Rattle.std.specs.Prelude.{ℕ, ◌+◌, ◌*◌, Bool, true, cond, List, [], ◌∷◌, ◌++◌, ℤ, pos, negsuc, replicate}
use Rattle.game_records.specs.declared.CharacterCore.{CharacterCore}
use Rattle.game_records.specs.Numbers.{core_count, input_count, core_numbers, input_numbers}
use Rattle.character.specs.Tick.{seats}
use Rattle.character.specs.declared.Slot.{Slot}
use Rattle.character.specs.Records.{to_net}
use Rattle.game_tuning.specs.Tuning.{tuning_count}
use Rattle.world.specs.Step.{no_core}
use Rattle.world.specs.declared.Published.{Published}
use Rattle.world.specs.declared.World.{World}
use Rattle.std.specs.Prelude.{Result, Ok, Err}
use Rattle.game_refusals.specs.declared.Refusal.{Refusal}

-- ---- how many numbers there are

-- of a seat among the records of a step: its presence and its record
abbrev pub record_count : ℕ
record_count = 1 + core_count

-- of a seat in a world before its floor mark: the same and its input
abbrev pub mark_place : ℕ
mark_place = record_count + input_count

-- of a seat in a world
abbrev pub seat_count : ℕ
seat_count = mark_place + 1

-- in a world
abbrev pub world_count : ℕ
world_count = tuning_count + seat_count * seats

-- in the records of a step
abbrev pub records_count : ℕ
records_count = record_count * seats

-- ---- where they stand

-- where the numbers of the seat k begin in a world
abbrev pub seat_place : ℕ → ℕ
seat_place k = tuning_count + seat_count * k

-- where a seat's hook begins in it: who is held, then state, tick, position and direction
abbrev pub hook_place : ℕ
hook_place = 9

abbrev pub state_place : ℕ
state_place = hook_place + 1

-- ---- which they are

-- f of each, one after the other
unfoldable pub each : {A : Type 0} → (A → List ℤ) → List A → List ℤ
each f [] = []
each f (x ∷ xs) = f x ++ each f xs

-- 1 for true, 0 for false
abbrev pub flag : Bool → ℤ
flag b = cond b (pos 1) (pos 0)

-- the record that `to_net` answers; an empty one where it refuses, which no world does that calls reach or numbers stand for (world_numbers/proofs/Any.antt)
abbrev pub net_core : Result CharacterCore Refusal → CharacterCore
net_core (Err e) = no_core
net_core (Ok core) = core

-- a seat's presence and record
unfoldable pub record_numbers : Published → List ℤ
record_numbers p = flag p.present ∷ core_numbers p.core

-- the presence, record, input and floor mark of a seat where somebody is
unfoldable pub present_numbers : Slot → List ℤ
present_numbers s = record_numbers (record { present = true; core = net_core (to_net s.character) }) ++ (input_numbers s.input ++ (flag s.grounded ∷ []))

-- the numbers of a Retracted hook: nobody is held, state -1, and zeros
abbrev pub retracted_numbers : List ℤ
retracted_numbers = negsuc 0 ∷ negsuc 0 ∷ replicate 5 (pos 0)

-- zeros where nobody is, whatever else the slot holds
unfoldable pub seat_numbers : Slot → List ℤ
seat_numbers s = cond s.present (present_numbers s) (replicate seat_count (pos 0))

-- the tunings, then every seat
unfoldable pub encoding : World → List ℤ
encoding w = w.tunings ++ each seat_numbers w.slots

-- the records of a step, seat by seat
unfoldable pub records_encoding : List Published → List ℤ
records_encoding rs = each record_numbers rs
