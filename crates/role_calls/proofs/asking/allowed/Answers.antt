use Rattle.role_calls.proofs.asking.allowed.Goals as goal

pub returns-in-Call : goal.returns-in-Call
returns-in-Call c = simp (c.in-Seat.is, c.in-Call.is, ← c.is_input_for.ensures)
