use mathlib.Core.Path.{sym, ◌∙◌, subst}
use lib.Dec.{T}
use Rattle.world.specs.Step.{step}
use Rattle.world_step.proofs.steps.make_step.Goals as goal

pub step_on-requires : goal.step_on-requires
step_on-requires c = subst T (sym c.if-is_map.true ∙ c.is_map.ensures) tt

pub returns-then-is_map : goal.returns-then-is_map
unfolding step
returns-then-is_map c = simp (← c.is_map.ensures, c.if-is_map.true, c.step_on.ensures)

pub returns : goal.returns
unfolding step
returns c = simp (← c.is_map.ensures, c.if-is_map.false)
