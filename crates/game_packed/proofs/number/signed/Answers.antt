use Rattle.std.proofs.Common.{arith}
use Rattle.std.proofs.lemmas.Int.{ints}
use Rattle.game_packed.specs.Unpacked.{signed}
use Rattle.game_packed.proofs.number.signed.Goals as goal

pub returns-then-negative : goal.returns-then-negative
unfolding signed
returns-then-negative c = rw c.if-negative.true (omega (arith, ints))

pub returns-else-negative : goal.returns-else-negative
unfolding signed
returns-else-negative c = rw c.if-negative.false (omega (arith, ints))
