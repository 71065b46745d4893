use borrow.Author.Rules.{rules}
use Rattle.character_hook.proofs.Unchanged.{not_retracting}
use Rattle.character_hook.specs.Hooking.{retract}
use borrow.Enum.Refused.{opened}
use Rattle.character_hook.proofs.hook.Hook.retract.Goals as goal

pub returns-in-Retracting0 : goal.returns-in-Retracting0
unfolding retract
returns-in-Retracting0 c = simp c.in-Retracting0.is

pub returns-in-Retracting1 : goal.returns-in-Retracting1
unfolding retract
returns-in-Retracting1 c = simp c.in-Retracting1.is

pub returns-in-Retracting2 : goal.returns-in-Retracting2
unfolding retract
returns-in-Retracting2 c = simp c.in-Retracting2.is

pub returns-in_default : goal.returns-in_default
unfolding retract
returns-in_default c = not_retracting _ (opened c.in_default.in_default-own.keys4)
