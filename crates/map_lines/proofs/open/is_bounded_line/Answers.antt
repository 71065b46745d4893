use borrow.Author.Rules.{rules}
use lib.Ieee.{le, of_bits}
use Rattle.map_lines.specs.OpenTurns.{is_bounded_line}
use Rattle.map_lines.proofs.open.is_bounded_line.Goals as goal

pub returns : goal.returns
unfolding is_bounded_line
returns c = simp (← c.sub-way.ensures, ← c.is_bounded.ensures, ← c.is_bounded-2.ensures, ← c.is_bounded-3.ensures, ← c.is_bounded-4.ensures)
