use borrow.Author.Tests.{ne_eqb}
use Rattle.test_states.specs.States.{direction_in}
use Rattle.test_states.proofs.states.direction_of.Goals as goal

pub returns-in-0 : goal.returns-in-0
unfolding direction_in
returns-in-0 c = rw c.in-0.is

pub returns-in-1 : goal.returns-in-1
unfolding direction_in
returns-in-1 c = rw c.in-1.is

pub returns-in_default : goal.returns-in_default
unfolding direction_in
returns-in_default c = let w = c.in_default.in_default-own.rest in simp (ne_eqb _ _ w.0.1, ne_eqb _ _ w.1)
