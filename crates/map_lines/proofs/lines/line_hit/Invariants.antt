use mathlib.Core.Logic.{⊎_elim}
use mathlib.Core.Path.{sym, ap}
use Prim.Native.Nat.{◌-◌, ◌^◌}
use native.Mathlib.Omega.{arith}
use lib.Dec.{le→leb}
use lib.Ieee.{in_float}
use borrow.Author.Rules.{rules}
use Rattle.num_convert.specs.Convert.{i32_to_f32}
use Rattle.base_turns.specs.Turns.{run}
use Rattle.base_turns.proofs.Loop.{Left, turn_on, turn_off, turn_end}
use Rattle.map_lines.proofs.Intervals.{passed}
use Rattle.map_lines.specs.Line.{line_turn, or_nothing, line_hit}
use Rattle.map_lines.proofs.lines.line_hit.Given as goal

abbrev pub invariant-loop-i : goal.invariant-loop-i
invariant-loop-i l = Left (line_turn l.sides l.tiles l.from l.to l.dist) l.turns l.i tt (run (line_turn l.sides l.tiles l.from l.to l.dist) l.turns 0 tt)

abbrev pub decreases-loop-i : goal.decreases-loop-i
decreases-loop-i l = l.turns - l.i
