use borrow.Author.Rules.{rules}
use Rattle.character_hook.proofs.Variants.{not_grabbed}
use Rattle.character_meeting.specs.Meeting.{meet}
use borrow.Enum.Refused.{opened}
use Rattle.character_meeting.proofs.meeting.meet.Goals as goal

pub returns-in_default : goal.returns-in_default
unfolding meet
returns-in_default c = rw (not_grabbed _ _ _ (opened c.in_default.in_default-own.keys2), ← c.collide-pushed.ensures)

pub returns-then-eq : goal.returns-then-eq
unfolding meet
returns-then-eq c = simp (← c.collide-pushed.ensures, c.in-Grabbed.is, ← c.eq.ensures, c.if-eq.true, ← c.held.ensures)

pub returns : goal.returns
unfolding meet
returns c = simp (← c.collide-pushed.ensures, c.in-Grabbed.is, ← c.eq.ensures, c.if-eq.false)
