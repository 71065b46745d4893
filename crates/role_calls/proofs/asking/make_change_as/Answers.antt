use Rattle.role_calls.proofs.asking.make_change_as.Goals as goal

pub returns-then-allowed : goal.returns-then-allowed
returns-then-allowed c = simp (← c.allowed.ensures, c.if-allowed.true, c.make_change.ensures)

pub returns : goal.returns
returns c = simp (← c.allowed.ensures, c.if-allowed.false)
