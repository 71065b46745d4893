use borrow.Author.Rules.{rules}
use Rattle.character_hook.specs.Dragging.{hook_vel}
use Rattle.character_hook.proofs.dragging.hook_vel.Goals as goal

pub returns : goal.returns
unfolding hook_vel
returns c = simp (← c.sub.ensures, ← c.normalize.ensures, ← c.mul-pull.ensures, ← c.lifted.ensures, ← c.helped.ensures)
