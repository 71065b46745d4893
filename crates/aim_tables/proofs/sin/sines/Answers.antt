use borrow.Author.Rules.{rules}
use Rattle.aim_tables.specs.Tables.{sin_t}
use Rattle.aim_tables.proofs.sin.sines.Goals as goal

pub returns : goal.returns
unfolding sin_t
returns c = search rules
