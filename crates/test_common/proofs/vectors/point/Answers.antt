use Rattle.test_common.proofs.vectors.point.Goals as goal

pub returns : goal.returns
returns c = simp (← c.float_of.ensures, ← c.float_of-2.ensures, ← c.new.ensures)
