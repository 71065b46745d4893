use borrow.Author.Rules.{rules}
use Rattle.character_motion.specs.Controls.{clamp_speed}
use Rattle.character_motion.proofs.controls.clamp_speed.Goals as goal

pub returns-then-length : goal.returns-then-length
unfolding clamp_speed
returns-then-length c = simp (← c.length.ensures, c.if-length.true, ← c.normalize.ensures, ← c.mul.ensures)

pub returns : goal.returns
unfolding clamp_speed
returns c = simp (← c.length.ensures, c.if-length.false)
