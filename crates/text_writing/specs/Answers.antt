-- The bytes of what a call of a session answers. Definitions only.
use Rattle.std.specs.Prelude.{ℕ, cond, List, [], ◌++◌, eqb, ℤ, pos, length}
use Rattle.base_turns.specs.Turns.{fold}
use Rattle.num_convert.specs.Casts.{cast_signed}
use Rattle.world.specs.Demand3.{record_at}
use Rattle.world.specs.declared.Published.{Published}
use Rattle.world.specs.Run.{Told}
use Rattle.text_writing.specs.Output.{record_bytes, answer_bytes}

-- the line of the record of the seat k is put after the lines w, if there is one
abbrev pub line_turn : ℤ → List Published → ℕ → List ℕ → List ℕ
line_turn call rs k w = cond (record_at rs k).present (w ++ record_bytes call (pos 0) (pos k) (record_at rs k).core) w

-- a line for each record of n seats, by rising id
unfoldable pub record_lines : ℕ → ℤ → List Published → List ℕ
record_lines n call rs = fold (line_turn call rs) n 0 []

-- where there is no record, a line with the answer alone
unfoldable pub told_bytes : ℕ → ℤ → Told → List ℕ
told_bytes n call r = let lines = record_lines n call r.records in cond (eqb (length lines) 0) (answer_bytes call (cast_signed r.number)) lines
