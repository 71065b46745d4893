use Rattle.send_calls.proofs.copies.no_copy.Goals as goal

pub returns : goal.returns
returns c = simp c.unpublished-none.ensures
