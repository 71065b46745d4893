use mathlib.Core.Path.{◌∙◌}
use mir.Facts.{to_z-of_z}
use Rattle.game_tuning.proofs.Hold.{below, tested}
use Rattle.game_tuning.proofs.is_hold.Goals as goal

pub returns-then-steps-ge1 : goal.returns-then-steps-ge1
returns-then-steps-ge1 c = rw (to_z-of_z c.ranges.steps) (tested c.args.steps (rw (to_z-of_z c.ranges.steps) at c.if-steps-ge1.true))

pub returns-else-steps-ge1 : goal.returns-else-steps-ge1
returns-else-steps-ge1 c = c.if-steps-ge1.false ∙ below c.args.steps (rw (to_z-of_z c.ranges.steps) at c.if-steps-ge1.false)
