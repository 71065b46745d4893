use mathlib.Core.Path.{ap, ◌∙◌}
use mir.Syntax.{w32}
use mir.Facts.{to_z-of_z}
use Rattle.map_tiles.specs.Map.{count}
use Rattle.map_lines.specs.Line.{line_turns}
use borrow.Author.Rules.{rules}
use Rattle.map_lines.proofs.lines.line_turns.Goals as goal

pub returns : goal.returns
unfolding line_turns
returns c = c.count.ensures.0 ∙ ap count (to_z-of_z {w = w32} (search rules) ∙ c.trunc_to_i32.ensures)
