use Rattle.game_input.specs.Direction.{as_int}
use Rattle.game_input.proofs.direction.MoveDirection.as_int.Goals as goal

pub returns-in-Left : goal.returns-in-Left
unfolding as_int
returns-in-Left c = simp c.in-Left.is

pub returns-in-None : goal.returns-in-None
unfolding as_int
returns-in-None c = simp c.in-None.is

pub returns-in-Right : goal.returns-in-Right
unfolding as_int
returns-in-Right c = simp c.in-Right.is
