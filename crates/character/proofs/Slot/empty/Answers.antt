use borrow.Author.Rules.{rules}
use Rattle.character.specs.Slot.{empty_slot}
use Rattle.character.proofs.Slot.empty.Goals as goal

pub returns : goal.returns
returns c = simp (c.no_input.ensures, c.spawn.ensures, c.new.ensures)
