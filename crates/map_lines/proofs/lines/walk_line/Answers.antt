use borrow.Author.Tests.{lt-leb, le-leb}
use Rattle.map_lines.specs.Line.{walk_line}
use borrow.Author.Rules.{rules}
use Rattle.map_lines.proofs.lines.walk_line.Goals as goal

pub returns-then-turns-gt-MOST_TURNS : goal.returns-then-turns-gt-MOST_TURNS
unfolding walk_line
returns-then-turns-gt-MOST_TURNS c = simp (← c.distance-dist.ensures, ← c.line_turns-turns.ensures, lt-leb _ _ c.if-turns-gt-MOST_TURNS.true)

pub returns : goal.returns
unfolding walk_line
returns c = simp (← c.distance-dist.ensures, ← c.line_turns-turns.ensures, le-leb _ _ c.if-turns-gt-MOST_TURNS.false, ← c.line_hit.ensures)
