use Rattle.num_vec2.specs.Vec2.{vmix}
use Rattle.num_vec2.proofs.vec2.mix.Goals as goal

pub returns : goal.returns
unfolding vmix
returns c = simp (← c.before.before.sub.ensures, ← c.before.mul.ensures, ← c.add.ensures)
