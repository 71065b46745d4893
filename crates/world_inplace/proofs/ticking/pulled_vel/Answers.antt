use Rattle.world_inplace.specs.Bodies.{pulled_vel}
use Rattle.world_inplace.proofs.ticking.pulled_vel.Goals as goal

pub returns-in-Some : goal.returns-in-Some
unfolding pulled_vel
returns-in-Some c = simp c.in-Some.is

pub returns-in-None : goal.returns-in-None
unfolding pulled_vel
returns-in-None c = simp c.in-None.is
