use borrow.Author.Rules.{rules}
use Rattle.game_records.specs.Numbers.{input_numbers}
use Rattle.game_records.proofs.input_numbers.Goals as goal

pub returns : goal.returns
unfolding input_numbers
returns c = search rules
