use borrow.Author.Rules.{rules}
use Rattle.character.proofs.Slot.joined.Goals as goal

pub returns : goal.returns
returns c = simp (c.no_input.ensures, c.spawn.ensures)
