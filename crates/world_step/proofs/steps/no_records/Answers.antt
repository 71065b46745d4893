use borrow.Author.Rules.{rules}
use Rattle.world_step.proofs.steps.no_records.Goals as goal

pub returns : goal.returns
returns c = simp c.unpublished.ensures
