use borrow.Author.Tests.{lt-ltb, le-ltb}
use Rattle.trial_rule.specs.Trial.{towards}
use Rattle.trial_runs.proofs.running.towards.Goals as goal

pub returns-then-target-own : goal.returns-then-target-own
unfolding towards
returns-then-target-own c = simp (lt-ltb _ _ c.if-target-own.true)

pub returns-then-own-target : goal.returns-then-own-target
unfolding towards
returns-then-own-target c = simp (le-ltb _ _ c.if-target-own.false, lt-ltb _ _ c.if-own-target.true)

pub returns : goal.returns
unfolding towards
returns c = simp (le-ltb _ _ c.if-target-own.false, le-ltb _ _ c.if-own-target.false)
