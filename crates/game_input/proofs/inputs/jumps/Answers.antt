use Rattle.game_input.proofs.Press.{press_bits}
use Rattle.game_input.specs.Inputs.{jumps}
use Rattle.game_input.proofs.inputs.jumps.Goals as goal

pub returns : goal.returns
unfolding jumps
returns c = press_bits c.before.before.args.input.jump c.struct_told-1.given.1.1.1.0.1
