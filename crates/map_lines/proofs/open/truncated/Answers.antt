use mathlib.Core.Path.{ap, ◌∙◌, ◌≡◌}
use native.Mathlib.Omega.{arith}
use mir.Syntax.{w32}
use mir.Facts.{to_z-of_z}
use borrow.Author.Rules.{rules}
use Rattle.map_tiles.specs.Map.{count}
use Rattle.map_lines.proofs.open.truncated.Goals as goal

pub returns-then-n-gt-MOST_TURNS : goal.returns-then-n-gt-MOST_TURNS
returns-then-n-gt-MOST_TURNS c = let e = c.count-n.ensures.0 ∙ ap count (to_z-of_z {w = w32} (search rules) ∙ c.trunc_to_i32.ensures) in omega (arith, e, c.if-n-gt-MOST_TURNS.true)

pub returns : goal.returns
returns c = let e = c.count-n.ensures.0 ∙ ap count (to_z-of_z {w = w32} (search rules) ∙ c.trunc_to_i32.ensures) in omega (arith, e)
