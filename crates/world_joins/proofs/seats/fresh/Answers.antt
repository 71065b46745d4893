use Rattle.world.specs.World.{fresh}
use borrow.Author.Rules.{rules}
use Rattle.world_joins.proofs.seats.fresh.Goals as goal

pub returns : goal.returns
unfolding fresh
returns c = simp (c.empty.ensures, c.fresh_tunings.ensures)
