use Rattle.test_common.specs.Counts.{counted}
use Rattle.test_common.proofs.counts.Counts.with.Goals as goal

pub returns-in-End : goal.returns-in-End
unfolding counted
returns-in-End c = simp c.in-End.is

pub returns-in-Agrees : goal.returns-in-Agrees
unfolding counted
returns-in-Agrees c = simp c.in-Agrees.is

pub returns-in-Differs : goal.returns-in-Differs
unfolding counted
returns-in-Differs c = simp c.in-Differs.is
