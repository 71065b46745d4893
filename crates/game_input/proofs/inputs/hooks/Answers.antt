use Rattle.game_input.proofs.Press.{press_bits}
use Rattle.game_input.specs.Inputs.{hooks}
use Rattle.game_input.proofs.inputs.hooks.Goals as goal

pub returns : goal.returns
unfolding hooks
returns c = press_bits c.before.before.args.input.hook c.struct_told-1.given.1.1.1.1.0.1
