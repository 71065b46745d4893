use Rattle.num_ramp.specs.Ramp.{velocity_ramp}
use Rattle.num_ramp.proofs.ramp.velocity_ramp.Goals as goal

pub returns-then-value-start : goal.returns-then-value-start
unfolding velocity_ramp
returns-then-value-start c = simp c.if-value-start.true

pub returns-else-value-start : goal.returns-else-value-start
unfolding velocity_ramp
returns-else-value-start c = simp (c.before.if-value-start.false, ← c.powf.ensures)
