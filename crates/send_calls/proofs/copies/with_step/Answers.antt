use Rattle.send_calls.proofs.copies.with_step.Goals as goal

pub returns : goal.returns
returns c = simp (← c.counted.ensures)
