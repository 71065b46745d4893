use Rattle.character_motion.specs.Controls.{landed}
use Rattle.character_motion.proofs.controls.landed.Goals as goal

pub returns-then-grounded : goal.returns-then-grounded
unfolding landed
returns-then-grounded c = simp c.if-grounded.true

pub returns : goal.returns
unfolding landed
returns c = simp c.if-grounded.false
