use Rattle.std.proofs.Common.{rules}
use Rattle.num_convert.specs.Casts.{cast_signed}
use Rattle.num_convert.proofs.casts.cast_signed.Goals as goal

pub returns : goal.returns
unfolding cast_signed
returns c = search rules
