use Rattle.character_motion.specs.Controls.{control_of}
use Rattle.character_motion.proofs.controls.control_of.Goals as goal

pub returns-then-grounded : goal.returns-then-grounded
unfolding control_of
returns-then-grounded c = simp c.if-grounded.true

pub returns-else-grounded : goal.returns-else-grounded
unfolding control_of
returns-else-grounded c = simp c.if-grounded.false
