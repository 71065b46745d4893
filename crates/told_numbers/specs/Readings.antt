-- What is read of a world that is kept as numbers. Definitions only; proofs/Readings.antt proves it.
use Rattle.std.specs.Prelude.{ℕ, zero, suc, List, ◌≡◌, ℤ, length}
use Rattle.game_records.specs.Numbers.{number_at, core_in, input_of_numbers}
use Rattle.character.specs.Tick.{seats}
use Rattle.world.specs.Readers.{read_of}
use Rattle.world.specs.declared.reading.Query.{Query}
use Rattle.world.specs.declared.reading.Query.TheVariants as query
use Rattle.world.specs.ReadAnswer.{ReadAnswer}
use Rattle.world.specs.ReadAnswer as reading
use Rattle.world_numbers.specs.Encoding.{world_count}
use Rattle.world_numbers.specs.Decoding.{is_set, decoding}
use Rattle.world_buffers.specs.Readers.{query_count, read_in}

-- what a reader that told a number and these numbers says to a query: a number other than 0 refuses it
abbrev pub reading_in : ℕ → Query → List ℤ → ReadAnswer
reading_in (suc k) q l = reading.Refused (suc k)
reading_in zero (query.Record id) l = reading.Record (core_in l)
reading_in zero (query.FloorMark id) l = reading.FloorMark (is_set (number_at l 0))
reading_in zero (query.PlayerInput id) l = reading.PlayerInput (input_of_numbers l)
reading_in zero (query.Tuning index) l = reading.Tuning (number_at l 0)

-- on any numbers, what the world says that they stand for
abbrev pub ReadingsTold : Type 0
ReadingsTold = (q : Query) (l out : List ℤ) → length l ≡ world_count → length out ≡ query_count q → let t = read_in q l out in reading_in t.number q t.numbers ≡ read_of seats (decoding seats l) q
