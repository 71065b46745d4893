use Rattle.num_vec2.specs.Vec2.{vdiv}
use Rattle.num_vec2.proofs.Vec2DivF32.div.Goals as goal

pub returns : goal.returns
unfolding vdiv
returns c = simp (← c.new.ensures)
