use mathlib.Core.Path.{◌∙◌, ap}
use lib.Ieee.{Float, binary32, mul}
use mir.Facts.{to_z-of_z}
use mir.Syntax.{w32}
use borrow.Author.Rules.{rules}
use Rattle.game_input.specs.Direction.{angle_to_net}
use Rattle.num_convert.specs.Convert.{c256}
use Rattle.num_convert.specs.Whole.{trunc_to_i32}
use Rattle.game_input.proofs.direction.Angle.to_net.Goals as goal

pub returns : goal.returns
unfolding angle_to_net
returns c = to_z-of_z {w = w32} (search rules) ∙ c.trunc_to_i32.ensures ∙ ap (λ (x : Float). trunc_to_i32 (mul binary32 x c256)) c.before.to_radians.ensures
