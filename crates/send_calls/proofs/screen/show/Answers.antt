use Rattle.send_calls.proofs.screen.show.Goals as goal

pub returns : goal.returns
returns c = simp (← c.with_copy-copies.ensures)
