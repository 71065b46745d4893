use borrow.Author.Rules.{rules}
use Rattle.character_motion.specs.Controls.{grounded}
use Rattle.character_motion.proofs.controls.grounded.Goals as goal

pub returns-then-is_solid : goal.returns-then-is_solid
unfolding grounded
returns-then-is_solid c = simp (← c.new.ensures, ← c.add-bottom_left.ensures, ← c.check_point.ensures, ← c.is_solid.ensures, c.if-is_solid.true)

pub returns : goal.returns
unfolding grounded
returns c = simp (← c.new.ensures, ← c.add-bottom_left.ensures, ← c.check_point.ensures, ← c.is_solid.ensures, c.if-is_solid.false, ← c.new-2.ensures, ← c.add-bottom_right.ensures, ← c.check_point-2.ensures, ← c.is_solid-2.ensures)
