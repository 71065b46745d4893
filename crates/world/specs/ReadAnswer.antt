-- What a reader is answered: what was asked for, or a refusal's number. Definitions only.
use Rattle.std.specs.Prelude.{ℕ, ℤ, Bool, Result, Ok, Err}
use Rattle.game_records.specs.declared.CharacterCore.{CharacterCore}
use Rattle.game_records.specs.declared.PlayerInput as input
use Rattle.game_refusals.specs.Refusals.{number_of}
use Rattle.game_refusals.specs.declared.Refusal.{Refusal}
use Rattle.world.specs.declared.reading.Reading.{Reading}
use Rattle.world.specs.declared.reading.Reading.TheVariants as read

pub data ReadAnswer : Type 0 where
  Refused : ℕ → ReadAnswer
  Record : CharacterCore → ReadAnswer
  FloorMark : Bool → ReadAnswer
  PlayerInput : input.PlayerInput → ReadAnswer
  Tuning : ℤ → ReadAnswer

-- the same of a read that answers what was asked for or a refusal
abbrev pub read_answer : Result Reading Refusal → ReadAnswer
read_answer (Err refusal) = Refused (number_of refusal)
read_answer (Ok (read.Record core)) = Record core
read_answer (Ok (read.FloorMark mark)) = FloorMark mark
read_answer (Ok (read.PlayerInput values)) = PlayerInput values
read_answer (Ok (read.Tuning value)) = Tuning value
