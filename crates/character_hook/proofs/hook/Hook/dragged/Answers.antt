use borrow.Author.Rules.{rules}
use Rattle.character_hook.proofs.Variants.{not_attached}
use Rattle.character_hook.specs.Dragging.{dragged}
use borrow.Enum.Refused.{opened}
use Rattle.character_hook.proofs.hook.Hook.dragged.Goals as goal

pub returns-in_default : goal.returns-in_default
unfolding dragged
returns-in_default c = rw (not_attached _ _ _ (opened c.in_default.in_default-own.keys2))

pub returns : goal.returns
unfolding dragged
returns c = simp (c.in-Attached.is, ← c.drag.ensures)
