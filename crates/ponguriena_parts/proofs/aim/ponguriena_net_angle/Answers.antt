use mathlib.Core.Path.{ap₂, ◌∙◌}
use mir.Syntax.{w32}
use mir.Facts.{to_z-of_z}
use borrow.Author.Rules.{sfits_of}
use Rattle.aim_rule.specs.Angle.{net_angle}
use Rattle.ponguriena_parts.proofs.aim.ponguriena_net_angle.Goals as goal

pub returns : goal.returns
returns c = to_z-of_z {w = w32} (sfits_of c.net_angle.type_inv) ∙ c.net_angle.ensures ∙ ap₂ net_angle (to_z-of_z c.ranges.x) (to_z-of_z c.ranges.y)
