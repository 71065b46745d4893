use borrow.Author.Rules.{rules}
use Rattle.character_aside.specs.Aside.{may_touch}
use Rattle.character_aside.proofs.aside.may_touch.Goals as goal

pub returns : goal.returns
unfolding may_touch
returns c = simp (← c.is_aside-beside.ensures, ← c.is_aside-above.ensures)
