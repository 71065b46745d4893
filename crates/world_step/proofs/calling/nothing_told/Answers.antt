use Rattle.world_step.proofs.calling.nothing_told.Goals as goal

pub returns : goal.returns
returns c = simp (c.nobody.ensures, c.no_records.ensures)
