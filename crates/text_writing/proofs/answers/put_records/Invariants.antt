use mathlib.Core.List.{List}
use Prim.Native.Nat.{ℕ, ◌*◌, ◌≤◌}
use lib.IntN.{ℤ}
use lib.ListN.{length}
use Rattle.base_turns.proofs.Loop.{Left, always}
use Rattle.base_turns.specs.Turns.{more}
use Rattle.character.specs.Tick.{seats}
use Rattle.world.specs.declared.Published.{Published}
use Rattle.text_writing.specs.Output.{most_line}
use Rattle.text_writing.specs.Put.{Put}
use Rattle.text_writing.specs.Answers.{line_turn, record_lines}
use Rattle.text_writing.proofs.answers.put_records.Given as goal

-- the lines so far stand in the buffer, and what is left of them ends as the whole does
pub record Sofar (d : List ℕ) (at : ℕ) (call : ℤ) (rs : List Published) (e : List ℕ) (next id : ℕ) : Type 0 where
  pub lines : List ℕ
  pub left : Left (always (line_turn call rs)) seats id lines (more (record_lines seats call rs))
  pub put : Put d at lines e next
  pub short : length lines ≤ most_line * id

abbrev pub invariant-loop-id : goal.invariant-loop-id
invariant-loop-id l = Sofar l.initial.buf l.at l.call l.fn.records l.buf l.next l.id
