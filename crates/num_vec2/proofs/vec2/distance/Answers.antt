use Rattle.num_vec2.specs.Vec2.{vdistance}
use Rattle.num_vec2.proofs.vec2.distance.Goals as goal

pub returns : goal.returns
unfolding vdistance
returns c = simp (← c.before.sub.ensures, ← c.length.ensures)
