use Rattle.num_vec2.specs.Vec2.{vlength}
use Rattle.num_vec2.proofs.vec2.length.Goals as goal

pub returns : goal.returns
unfolding vlength
returns c = simp (← c.root.ensures)
