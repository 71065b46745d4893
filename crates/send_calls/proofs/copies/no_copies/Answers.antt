use Rattle.send_calls.proofs.copies.no_copies.Goals as goal

pub returns : goal.returns
returns c = simp c.no_copy.ensures
