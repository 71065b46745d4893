use borrow.Author.Rules.{rules}
use Rattle.character_hook.specs.Hook.{net_state}
use Rattle.character_hook.proofs.hook.Hook.net_state.Goals as goal

pub returns-in-Retracted : goal.returns-in-Retracted
unfolding net_state
returns-in-Retracted c = simp c.in-Retracted.is

pub returns-in-Idle : goal.returns-in-Idle
unfolding net_state
returns-in-Idle c = simp c.in-Idle.is

pub returns-in-Flying : goal.returns-in-Flying
unfolding net_state
returns-in-Flying c = simp c.in-Flying.is

pub returns-in-Attached : goal.returns-in-Attached
unfolding net_state
returns-in-Attached c = simp c.in-Attached.is

pub returns-in-Grabbed : goal.returns-in-Grabbed
unfolding net_state
returns-in-Grabbed c = simp c.in-Grabbed.is

pub returns-in-Retracting0 : goal.returns-in-Retracting0
unfolding net_state
returns-in-Retracting0 c = simp c.in-Retracting0.is

pub returns-in-Retracting1 : goal.returns-in-Retracting1
unfolding net_state
returns-in-Retracting1 c = simp c.in-Retracting1.is

pub returns-in-Retracting2 : goal.returns-in-Retracting2
unfolding net_state
returns-in-Retracting2 c = simp c.in-Retracting2.is
