use mathlib.Core.Path.{ap, ◌∙◌}
use Rattle.num_convert.proofs.Signed.{read}
use Rattle.game_input.specs.Direction.{from_int}
use Rattle.game_input.specs.Inputs.{move_direction}
use Rattle.game_input.proofs.inputs.move_direction.Goals as goal

pub returns : goal.returns
unfolding move_direction
returns c = c.from_int.ensures ∙ ap from_int (read _ c.before.struct_told-1.given.0.1)
