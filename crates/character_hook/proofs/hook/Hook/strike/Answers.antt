use borrow.Author.Rules.{rules}
use Rattle.character_hook.specs.Hooking.{strike}
use Rattle.character_hook.proofs.hook.Hook.strike.Goals as goal

pub returns-in_default : goal.returns-in_default
unfolding strike
returns-in_default c = simp c.in_default.is

pub returns-in-Open : goal.returns-in-Open
unfolding strike
returns-in-Open c = simp (c.in-Some.is, c.in-Open.is)

pub returns-in-Normal : goal.returns-in-Normal
unfolding strike
returns-in-Normal c = simp (c.in-Some.is, c.in-Normal.is)

pub returns-in-Deadly : goal.returns-in-Deadly
unfolding strike
returns-in-Deadly c = simp (c.in-Some.is, c.in-Deadly.is)

pub returns-in-Unhookable : goal.returns-in-Unhookable
unfolding strike
returns-in-Unhookable c = simp (c.in-Some.is, c.in-Unhookable.is)
