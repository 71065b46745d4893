use Rattle.std.proofs.Common.{rules}
use Rattle.num_convert.specs.Casts.{cast_unsigned}
use Rattle.num_convert.proofs.casts.cast_unsigned.Goals as goal

pub returns : goal.returns
unfolding cast_unsigned
returns c = search rules
