use borrow.Author.Rules.{rules}
use Rattle.character_hook.specs.Dragging.{lifted}
use Rattle.character_hook.proofs.dragging.lifted.Goals as goal

pub returns-then-pull : goal.returns-then-pull
unfolding lifted
returns-then-pull c = simp (c.if-pull.true, ← c.new.ensures)

pub returns : goal.returns
unfolding lifted
returns c = simp c.if-pull.false
