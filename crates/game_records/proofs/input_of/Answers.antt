use Rattle.game_records.specs.Numbers.{input_of_numbers}
use borrow.Author.Rules.{rules}
use Rattle.game_records.proofs.input_of.Goals as goal

pub returns : goal.returns
unfolding input_of_numbers
returns c = search rules
