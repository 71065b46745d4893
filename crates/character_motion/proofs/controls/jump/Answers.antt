use borrow.Author.Tests.{not-true, not-false}
use Rattle.character_motion.specs.Controls.{jump}
use Rattle.character_motion.proofs.controls.jump.Goals as goal

pub returns-then-grounded : goal.returns-then-grounded
unfolding jump
returns-then-grounded c = simp (c.if-pressed.true, not-true c.args.before.jumped_already c.if-not-before.true, c.if-grounded.true)

pub returns-then-not-before-2 : goal.returns-then-not-before-2
unfolding jump
returns-then-not-before-2 c = simp (c.if-pressed.true, not-true c.args.before.jumped_already c.if-not-before.true, c.if-grounded.false, not-true c.args.before.used_airjump c.if-not-before-2.true)

pub returns-else-not-before-2 : goal.returns-else-not-before-2
unfolding jump
returns-else-not-before-2 c = simp (c.if-pressed.true, not-true c.args.before.jumped_already c.if-not-before.true, c.if-grounded.false, not-false c.args.before.used_airjump c.if-not-before-2.false)

pub returns-else-not-before : goal.returns-else-not-before
unfolding jump
returns-else-not-before c = simp (c.if-pressed.true, not-false c.args.before.jumped_already c.if-not-before.false)

pub returns-else-pressed : goal.returns-else-pressed
unfolding jump
returns-else-pressed c = simp c.if-pressed.false
