use borrow.Author.Rules.{rules}
use Rattle.game_records.specs.Numbers.{core_in}
use Rattle.game_records.proofs.core_of.Goals as goal

pub returns : goal.returns
unfolding core_in
returns c = search rules
