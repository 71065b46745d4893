-- What is passed along as a list of numbers: each thing begins with its kind. Definitions only; the way back is `read_passed` (send_numbers/specs/Reading.antt).
use Rattle.std.specs.Prelude.{ℕ, ◌+◌, ◌*◌, List, [], ◌∷◌, ◌++◌, ℤ, pos}
use Rattle.num_convert.specs.Casts.{cast_signed}
use Rattle.game_records.specs.Numbers.{core_count, input_count, core_numbers, input_numbers}
use Rattle.game_records.specs.declared.CharacterCore.{CharacterCore}
use Rattle.game_records.specs.declared.PlayerInput.{PlayerInput}
use Rattle.character.specs.Tick.{seats}
use Rattle.send_rule.specs.Send.{most_passed}
use Rattle.send_rule.specs.declared.Passed.{Passed}
use Rattle.send_rule.specs.declared.Passed.TheVariants as passed
use Rattle.world_numbers.specs.Encoding.{each}

-- how many numbers a message has: its kind, its id, its record and its input
abbrev pub message_count : ℕ
message_count = 2 + core_count + input_count

-- and a buffer that has room for the most that a call passes along, each as long as a message, which is the longest
abbrev pub passed_count : ℕ
passed_count = message_count * most_passed seats

-- a message's; its id is the i32 with the same bits, as every id and index below
unfoldable pub message_numbers : ℕ → CharacterCore → PlayerInput → List ℤ
message_numbers k core i = pos 1 ∷ cast_signed k ∷ (core_numbers core ++ input_numbers i)

-- those of each thing
unfoldable pub passed_numbers : Passed → List ℤ
passed_numbers passed.Mark = pos 0 ∷ []
passed_numbers (passed.Message k core i) = message_numbers k core i
passed_numbers (passed.Removal k) = pos 2 ∷ cast_signed k ∷ []
passed_numbers (passed.Leave k) = pos 3 ∷ cast_signed k ∷ []
passed_numbers (passed.Tune k v) = pos 4 ∷ cast_signed k ∷ v ∷ []

-- one thing after the other
abbrev pub all_numbers : List Passed → List ℤ
all_numbers ps = each passed_numbers ps
