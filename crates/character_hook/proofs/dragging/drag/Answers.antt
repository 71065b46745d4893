use borrow.Author.Rules.{rules}
use Rattle.character_hook.specs.Dragging.{drag}
use Rattle.character_hook.proofs.dragging.drag.Goals as goal

pub returns-then-speed-tuning : goal.returns-then-speed-tuning
unfolding drag
returns-then-speed-tuning c = simp (← c.distance.ensures, c.if-distance.true, ← c.hook_vel.ensures, ← c.add-new_vel.ensures, ← c.length-speed.ensures, c.if-speed-tuning.true)

pub returns-then-speed-length : goal.returns-then-speed-length
unfolding drag
returns-then-speed-length c = simp (← c.distance.ensures, c.if-distance.true, ← c.hook_vel.ensures, ← c.add-new_vel.ensures, ← c.length-speed.ensures, c.if-speed-tuning.false, ← c.length.ensures, c.if-speed-length.true)

pub returns-else-speed-length : goal.returns-else-speed-length
unfolding drag
returns-else-speed-length c = simp (← c.distance.ensures, c.if-distance.true, ← c.hook_vel.ensures, ← c.add-new_vel.ensures, ← c.length-speed.ensures, c.if-speed-tuning.false, ← c.length.ensures, c.if-speed-length.false)

pub returns-else-distance : goal.returns-else-distance
unfolding drag
returns-else-distance c = simp (← c.distance.ensures, c.if-distance.false)
