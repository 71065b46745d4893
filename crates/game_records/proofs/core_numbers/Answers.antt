use borrow.Author.Rules.{rules}
use Rattle.game_records.specs.Numbers.{core_numbers}
use Rattle.game_records.proofs.core_numbers.Goals as goal

pub returns : goal.returns
unfolding core_numbers
returns c = search rules
