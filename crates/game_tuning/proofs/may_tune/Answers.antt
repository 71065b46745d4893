use mathlib.Core.Path.{ap, ◌∙◌}
use mir.Facts.{to_z-of_z}
use borrow.Author.Tests.{eq-eqb, ne_eqb}
use Rattle.game_tuning.specs.Tuning.{is_hold, may_tune}
use Rattle.game_tuning.proofs.may_tune.Goals as goal

pub returns-then-index-ne-HOOK_HOLD : goal.returns-then-index-ne-HOOK_HOLD
unfolding may_tune
returns-then-index-ne-HOOK_HOLD c = simp (ne_eqb _ _ c.if-index-ne-HOOK_HOLD.true)

pub returns-else-index-ne-HOOK_HOLD : goal.returns-else-index-ne-HOOK_HOLD
unfolding may_tune
returns-else-index-ne-HOOK_HOLD c = simp (eq-eqb _ _ c.if-index-ne-HOOK_HOLD.false) (c.is_hold.ensures ∙ ap is_hold (to_z-of_z c.ranges.value))
