use borrow.Author.Rules.{rules}
use Rattle.character.specs.Character.{spawn}
use Rattle.character.proofs.Character.spawn.Goals as goal

pub returns : goal.returns
unfolding spawn
returns c = simp (← c.new.ensures, ← c.from_radians.ensures)
