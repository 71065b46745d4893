use mathlib.Core.Path.{◌∙◌, ap}
use mir.Facts.{to_z-of_z}
use mir.Syntax.{w32}
use borrow.Author.Rules.{rules}
use Rattle.game_input.specs.Direction.{as_float}
use Rattle.num_convert.specs.Convert.{i32_to_f32}
use Rattle.game_input.proofs.direction.MoveDirection.as_float.Goals as goal

pub returns : goal.returns
unfolding as_float
returns c = c.i32_to_f32.ensures ∙ ap i32_to_f32 (to_z-of_z {w = w32} (search rules) ∙ c.before.as_int.ensures)
