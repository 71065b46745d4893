use Rattle.num_vec2.specs.Vec2.{vsub}
use Rattle.num_vec2.proofs.Vec2Sub.sub.Goals as goal

pub returns : goal.returns
unfolding vsub
returns c = simp (← c.new.ensures)
