use Rattle.num_vec2.specs.Vec2.{vadd}
use Rattle.num_vec2.proofs.Vec2Add.add.Goals as goal

pub returns : goal.returns
unfolding vadd
returns c = simp (← c.new.ensures)
