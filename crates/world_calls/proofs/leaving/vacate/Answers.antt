use borrow.Author.Rules.{rules}
use Rattle.world_calls.proofs.leaving.vacate.Goals as goal

pub returns : goal.returns
returns c = simp (c.with_slot.ensures, c.empty.ensures, c.release.ensures)
