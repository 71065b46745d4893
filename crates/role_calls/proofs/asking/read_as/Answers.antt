use Rattle.role_calls.proofs.asking.read_as.Goals as goal

pub returns-then-allowed : goal.returns-then-allowed
returns-then-allowed c = simp (← c.allowed.ensures, c.if-allowed.true, c.read.ensures)

pub returns : goal.returns
returns c = simp (← c.allowed.ensures, c.if-allowed.false)
