use borrow.Author.Rules.{rules}
use Rattle.character_hook.specs.Hooking.{grab}
use Rattle.character_hook.proofs.hook.Hook.grab.Goals as goal

pub returns-in_default : goal.returns-in_default
unfolding grab
returns-in_default c = simp c.in_default.is

pub returns : goal.returns
unfolding grab
returns c = simp c.in-Some.is
