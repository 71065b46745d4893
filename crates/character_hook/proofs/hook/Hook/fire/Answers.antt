use borrow.Author.Rules.{rules}
use Rattle.character_hook.specs.Hooking.{fire}
use Rattle.character_hook.proofs.hook.Hook.fire.Goals as goal

pub returns-then-pressed : goal.returns-then-pressed
unfolding fire
returns-then-pressed c = simp (c.if-pressed.true, ← c.fired.ensures)

pub returns : goal.returns
unfolding fire
returns c = simp c.if-pressed.false
