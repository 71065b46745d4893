use borrow.Author.Rules.{rules}
use Rattle.aim_tables.specs.Tables.{cos_t}
use Rattle.aim_tables.proofs.cos.cosines.Goals as goal

pub returns : goal.returns
unfolding cos_t
returns c = search rules
