use mir.Facts.{to_z-of_z}
use borrow.Author.Rules.{rules}
use Rattle.ponguriena.proofs.trials.ponguriena_trial.Goals as goal

pub returns : goal.returns
returns c = rw c.number_of_answer.ensures (rw (to_z-of_z c.ranges.steps) at c.trial.ensures)
