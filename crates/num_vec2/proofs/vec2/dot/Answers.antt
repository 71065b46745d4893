use mathlib.Core.Path.{refl}
use Rattle.num_vec2.specs.Vec2.{vdot}
use Rattle.num_vec2.proofs.vec2.dot.Goals as goal

pub returns : goal.returns
unfolding vdot
returns c = refl
