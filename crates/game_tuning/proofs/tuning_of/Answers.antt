use borrow.Author.Rules.{rules}
use Rattle.game_tuning.specs.Tuning.{tuning_of}
use Rattle.game_tuning.proofs.tuning_of.Goals as goal

pub returns : goal.returns
unfolding tuning_of
returns c = search rules
