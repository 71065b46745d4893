use Rattle.num_vec2.specs.Vec2.{vnormalize}
use Rattle.num_vec2.specs.Vec2.{closest_point_on_line}
use Rattle.num_vec2.proofs.vec2.closest_point_on_line.Goals as goal

pub returns : goal.returns
unfolding closest_point_on_line vnormalize
returns c = simp (← c.before.before.before.before.before.before.sub-line.ensures, ← c.before.before.before.before.before.length-length.ensures, ← c.before.before.before.before.mul.ensures, ← c.before.before.before.sub.ensures, ← c.before.before.dot.ensures, ← c.before.clamp.ensures, ← c.mix.ensures)
