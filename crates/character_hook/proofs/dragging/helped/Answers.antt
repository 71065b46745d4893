use borrow.Author.Rules.{rules}
use Rattle.character_hook.specs.Dragging.{helped}
use Rattle.character_hook.proofs.dragging.helped.Goals as goal

pub returns-then-pull-as_float : goal.returns-then-pull-as_float
unfolding helped
returns-then-pull-as_float c = simp (← c.as_float.ensures, c.if-pull-as_float.true, ← c.new.ensures)

pub returns : goal.returns
unfolding helped
returns c = simp (← c.as_float.ensures, c.if-pull-as_float.false, ← c.new-2.ensures)
