use borrow.Author.Rules.{rules}
use Rattle.character_hook.proofs.Unchanged.{not_idle}
use Rattle.character_hook.specs.Hooking.{fired}
use borrow.Enum.Refused.{opened}
use Rattle.character_hook.proofs.hooking.fired.Goals as goal

pub returns-in_default : goal.returns-in_default
unfolding fired
returns-in_default c = not_idle _ _ _ (opened c.in_default.in_default-own.keys2)

pub returns : goal.returns
unfolding fired
returns c = simp (c.in-Idle.is, ← c.mul.ensures, ← c.mul-2.ensures, ← c.add.ensures)
