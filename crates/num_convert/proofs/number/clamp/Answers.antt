use Rattle.num_convert.specs.Number.{clamp}
use Rattle.num_convert.proofs.number.clamp.Goals as goal

pub returns-then-value-min : goal.returns-then-value-min
unfolding clamp
returns-then-value-min c = simp c.if-value-min.true

pub returns-then-value-max : goal.returns-then-value-max
unfolding clamp
returns-then-value-max c = simp (c.before.if-value-min.false, c.if-value-max.true)

pub returns-else-value-max : goal.returns-else-value-max
unfolding clamp
returns-else-value-max c = simp (c.before.if-value-min.false, c.if-value-max.false)
