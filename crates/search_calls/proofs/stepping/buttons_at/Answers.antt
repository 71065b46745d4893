use mathlib.Core.Path.{◌≡◌}
use native.Mathlib.Omega.{arith}
use Rattle.search_rule.specs.Search.{buttons_at}
use Rattle.search_calls.proofs.stepping.buttons_at.Goals as goal

pub returns-in-0 : goal.returns-in-0
unfolding buttons_at
returns-in-0 c = rw c.in-0.is

pub returns-in-1 : goal.returns-in-1
unfolding buttons_at
returns-in-1 c = rw c.in-1.is

pub returns-in-2 : goal.returns-in-2
unfolding buttons_at
returns-in-2 c = rw c.in-2.is

pub returns-in-3 : goal.returns-in-3
unfolding buttons_at
returns-in-3 c = rw c.in-3.is

pub returns-in-4 : goal.returns-in-4
unfolding buttons_at
returns-in-4 c = rw c.in-4.is

pub returns-in_default : goal.returns-in_default
unfolding buttons_at
returns-in_default c = let r = c.in_default.in_default-own.rest in let e : c.args.i ≡ 5 = omega (arith, c.requires, r.0.0.0.0.1, r.0.0.0.1, r.0.0.1, r.0.1, r.1) in rw e
