use Rattle.num_vec2.specs.Vec2.{vmul}
use Rattle.num_vec2.proofs.Vec2MulF32.mul.Goals as goal

pub returns : goal.returns
unfolding vmul
returns c = simp (← c.new.ensures)
