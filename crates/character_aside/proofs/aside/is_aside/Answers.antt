use borrow.Author.Rules.{rules}
use lib.Ieee.{le}
use Rattle.character_aside.specs.Aside.{is_aside}
use Rattle.character_aside.proofs.aside.is_aside.Goals as goal

pub returns : goal.returns
unfolding le is_aside
returns c = search rules
