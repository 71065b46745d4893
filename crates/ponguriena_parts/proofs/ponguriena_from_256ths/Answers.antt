use mathlib.Core.Path.{ap, ◌∙◌}
use mir.Syntax.{w32}
use mir.Facts.{to_z-of_z}
use borrow.Author.Rules.{rules}
use Rattle.num_convert.specs.Convert.{from256ths}
use Rattle.ponguriena_parts.proofs.ponguriena_from_256ths.Goals as goal

pub returns : goal.returns
returns c = c.from_256ths.ensures ∙ ap from256ths (to_z-of_z {w = w32} (search rules))
