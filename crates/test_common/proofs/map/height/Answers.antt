use Rattle.std.proofs.Common.{◌∙◌, ap₂}
use Rattle.test_common.specs.Words.{two_digits, height_in}
use Rattle.test_common.proofs.map.height.Goals as goal

pub returns : goal.returns
unfolding height_in
returns c = (c.two_digits.ensures.0 ∙ ap₂ two_digits c.byte_at.ensures c.byte_at-2.ensures, c.two_digits.ensures.1)
