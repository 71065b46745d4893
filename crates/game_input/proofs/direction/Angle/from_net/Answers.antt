use mathlib.Core.Path.{◌∙◌, ap}
use lib.Ieee.{Float}
use mir.Facts.{to_z-of_z}
use mir.Syntax.{w32}
use borrow.Author.Rules.{rules}
use Rattle.game_input.specs.Direction.{angle_from_net}
use Rattle.num_convert.specs.Convert.{from256ths}
use Rattle.game_input.proofs.direction.Angle.from_net.Goals as goal

pub returns : goal.returns
unfolding angle_from_net
returns c = c.from_radians.ensures ∙ ap (λ (x : Float). record { radians = x }) (c.before.from_256ths.ensures ∙ ap from256ths (to_z-of_z {w = w32} (search rules)))
