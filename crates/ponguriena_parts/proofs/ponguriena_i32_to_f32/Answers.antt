use mathlib.Core.Path.{ap, ◌∙◌}
use mir.Syntax.{w32}
use mir.Facts.{to_z-of_z}
use borrow.Author.Rules.{rules}
use Rattle.num_convert.specs.Convert.{i32_to_f32}
use Rattle.ponguriena_parts.proofs.ponguriena_i32_to_f32.Goals as goal

pub returns : goal.returns
returns c = c.i32_to_f32.ensures ∙ ap i32_to_f32 (to_z-of_z {w = w32} (search rules))
