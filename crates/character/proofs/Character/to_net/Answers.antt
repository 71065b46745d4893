use borrow.Author.Rules.{rules}
use borrow.Author.Tests.{lt-leb, le-leb}
use Rattle.character.specs.Records.{to_net}
use Rattle.character.proofs.Character.to_net.Goals as goal

pub returns-then-tick-gt-MOST_TICK : goal.returns-then-tick-gt-MOST_TICK
unfolding to_net
returns-then-tick-gt-MOST_TICK c = simp (← c.tick.ensures, lt-leb _ _ c.if-tick-gt-MOST_TICK.true)

pub returns : goal.returns
unfolding to_net
returns c = simp (← c.tick.ensures, le-leb _ _ c.if-tick-gt-MOST_TICK.false, ← c.core_of.ensures)
