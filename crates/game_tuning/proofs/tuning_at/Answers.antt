use mathlib.Core.Path.{◌∙◌, ap}
use mir.Facts.{to_z-of_z}
use mir.Syntax.{w32}
use borrow.Author.Rules.{rules}
use Rattle.num_convert.specs.Convert.{hundredths_to_f32}
use Rattle.game_tuning.specs.Tuning.{tuning_at}
use Rattle.game_tuning.proofs.tuning_at.Goals as goal

pub returns : goal.returns
unfolding tuning_at
returns c = c.hundredths_to_f32.ensures ∙ ap hundredths_to_f32 (to_z-of_z {w = w32} (search rules))
