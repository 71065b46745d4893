use borrow.Author.Rules.{rules}
use Rattle.character.specs.Among.{may_meet}
use Rattle.character.proofs.among.may_meet.Goals as goal

pub returns-then-is_beyond : goal.returns-then-is_beyond
unfolding may_meet
returns-then-is_beyond c = simp (← c.is_beyond.ensures, c.if-is_beyond.true)

pub returns : goal.returns
unfolding may_meet
returns c = simp (← c.is_beyond.ensures, c.if-is_beyond.false)
