use mathlib.Core.Path.{sym, ◌∙◌, subst}
use lib.Dec.{T}
use Rattle.map_lines.specs.Line.{check_line}
use Rattle.map_lines.proofs.lines.check_line.Goals as goal

pub walk_line-requires : goal.walk_line-requires
walk_line-requires c = subst T (sym c.if-is_map.true ∙ c.is_map.ensures) tt

pub returns-then-is_map : goal.returns-then-is_map
unfolding check_line
returns-then-is_map c = simp (← c.is_map.ensures, c.if-is_map.true, ← c.walk_line.ensures)

pub returns : goal.returns
unfolding check_line
returns c = simp (← c.is_map.ensures, c.if-is_map.false)
