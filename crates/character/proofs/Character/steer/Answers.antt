use borrow.Author.Rules.{rules}
use Rattle.character.specs.Tick.{steer}
use Rattle.character.proofs.Character.steer.Goals as goal

pub returns : goal.returns
unfolding steer
returns c = simp (← c.move_direction-direction.ensures, ← c.jumps.ensures, ← c.jump-jumped.ensures, ← c.fire_at_target-hook.ensures, ← c.control_of.ensures, ← c.walk-vel_x.ensures, ← c.new.ensures, ← c.landed.ensures, ← c.aim.ensures)
