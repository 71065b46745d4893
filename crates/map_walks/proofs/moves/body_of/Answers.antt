use borrow.Author.Rules.{rules}
use Rattle.map_walks.proofs.moves.body_of.Goals as goal

pub returns : goal.returns
returns c = simp (← c.new.ensures, ← c.new-2.ensures)
