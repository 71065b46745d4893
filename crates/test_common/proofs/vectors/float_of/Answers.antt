use Rattle.std.proofs.Common.{sym}
use lib.Ieee.{binary32, div, of_bits}
use Rattle.base_binary32.proofs.Nans.{body_no_nan, body_nan}
use Rattle.test_common.proofs.vectors.float_of.Goals as goal

pub float_from_bits-result : goal.float_from_bits-result
float_from_bits-result c = body_no_nan binary32 c.args.pattern c.if-pattern-le2139095040.true

pub returns-else-pattern-le2139095040 : goal.returns-else-pattern-le2139095040
unfolding div of_bits
returns-else-pattern-le2139095040 c = sym (body_nan binary32 c.args.pattern c.if-pattern-le2139095040.false)
