-- What is read of a world that is kept as the numbers of a buffer: the answers, and what is left in the reader's buffer. Definitions only.
use Rattle.std.specs.Prelude.{ℕ, cond, ◌&&◌, List, [], ◌∷◌, ℤ, Result, Ok, Err}
use Rattle.game_refusals.specs.Refusals.{bad_length, number_of}
use Rattle.game_refusals.specs.declared.Refusal.{Refusal}
use Rattle.game_records.specs.Numbers.{core_count, input_count, core_numbers, input_numbers}
use Rattle.character.specs.Tick.{seats}
use Rattle.character.specs.declared.Slot.{Slot}
use Rattle.world.specs.Readers.{read_of}
use Rattle.world.specs.declared.reading.Query.{Query}
use Rattle.world.specs.declared.reading.Query.TheVariants as query
use Rattle.world.specs.ReadAnswer.{ReadAnswer}
use Rattle.world.specs.ReadAnswer as reading
use Rattle.world_numbers.specs.Encoding.{world_count, flag}
use Rattle.world_numbers.specs.Decoding.{decoding}
use Rattle.world_buffers.specs.Buffers.{has}

-- how many numbers a query is told
abbrev pub query_count : Query → ℕ
query_count (query.Record id) = core_count
query_count (query.FloorMark id) = 1
query_count (query.PlayerInput id) = input_count
query_count (query.Tuning index) = 1

-- a reader's number, and what it leaves in the reader's buffer
pub record ReadTold : Type 0 where
  pub number : ℕ
  pub numbers : List ℤ

-- a refusal's number, and the numbers as they were
abbrev pub untold : List ℤ → ℕ → ReadTold
untold out k = record { number = k; numbers = out }

-- what was read, in place of the numbers that the buffer had
abbrev pub told_as : List ℤ → ReadTold
told_as new = record { number = 0; numbers = new }

-- a reading as numbers
abbrev pub reading_told : List ℤ → ReadAnswer → ReadTold
reading_told out (reading.Refused k) = untold out k
reading_told out (reading.Record c) = told_as (core_numbers c)
reading_told out (reading.FloorMark g) = told_as (flag g ∷ [])
reading_told out (reading.PlayerInput i) = told_as (input_numbers i)
reading_told out (reading.Tuning z) = told_as (z ∷ [])

-- a reading of the world that the numbers l stand for
unfoldable pub read_in : Query → List ℤ → List ℤ → ReadTold
read_in q l out = cond (has world_count l && has (query_count q) out) (reading_told out (read_of seats (decoding seats l) q)) (untold out bad_length)
