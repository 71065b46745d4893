use mathlib.Core.Path.{ap, ◌∙◌}
use lib.IntN.{nat_abs}
use mir.Facts.{to_z-of_z}
use borrow.Author.Rules.{sfits_of}
use Rattle.game_tuning.proofs.Hold.{clamped}
use Rattle.game_tuning.proofs.hold_of.Goals as goal

pub returns : goal.returns
returns c = rw (to_z-of_z (sfits_of c.clamp.type_inv)) (ap nat_abs (rw (to_z-of_z c.ranges.steps) at c.clamp.ensures.value ∙ clamped c.args.steps))
