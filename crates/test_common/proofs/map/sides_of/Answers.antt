use Rattle.test_common.proofs.map.sides_of.Goals as goal

pub returns : goal.returns
returns c = simp (c.width.ensures.0, c.height.ensures.0)
