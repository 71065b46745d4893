use Rattle.num_convert.specs.Convert.{to256ths}
use Rattle.std.proofs.Common.{rules}
use Rattle.num_convert.proofs.float.to_256ths.Goals as goal

pub returns : goal.returns
unfolding to256ths
returns c = search rules
