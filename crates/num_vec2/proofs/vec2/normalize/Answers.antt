use Rattle.num_vec2.specs.Vec2.{vnormalize}
use Rattle.num_vec2.proofs.vec2.normalize.Goals as goal

pub returns : goal.returns
unfolding vnormalize
returns c = simp (← c.before.length.ensures, ← c.mul.ensures)
