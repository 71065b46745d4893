use borrow.Author.Rules.{rules}
use lib.Ieee.{le, neg, of_bits}
use Rattle.map_lines.specs.OpenTurns.{is_bounded}
use Rattle.map_lines.proofs.open.is_bounded.Goals as goal

pub returns : goal.returns
unfolding le is_bounded neg of_bits
returns c = search rules
