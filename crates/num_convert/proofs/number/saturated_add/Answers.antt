use Rattle.num_convert.specs.Number.{saturated_add}
use Rattle.num_convert.proofs.number.saturated_add.Goals as goal
use Rattle.num_convert.proofs.number.saturated_add.Goals.{then-modifier+else-value-min, else-modifier+else-value-max}

pub returns-then-value-min : goal.returns-then-value-min
unfolding saturated_add
returns-then-value-min c = simp (c.before.if-modifier.true, c.if-value-min.true)

pub returns-then-value-max : goal.returns-then-value-max
unfolding saturated_add
returns-then-value-max c = simp (c.before.if-modifier.false, c.if-value-max.true)

pub returns : goal.returns
unfolding saturated_add
returns c = elim c.if-modifier.branch [ then-modifier+else-value-min w ↦ simp (← c.clamp.ensures, w.if-modifier.true, w.if-value-min.false) | else-modifier+else-value-max w ↦ simp (← c.clamp.ensures, w.if-modifier.false, w.if-value-max.false) ]
