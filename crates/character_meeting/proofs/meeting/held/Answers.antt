use borrow.Author.Rules.{rules}
use Rattle.character_meeting.specs.Meeting.{held}
use Rattle.character_meeting.proofs.meeting.held.Goals as goal

pub returns-then-drags : goal.returns-then-drags
unfolding held
returns-then-drags c = simp (← c.distance-distance.ensures, ← c.drags.ensures, c.if-drags.true, ← c.dragged.ensures)

pub returns : goal.returns
unfolding held
returns c = simp (← c.distance-distance.ensures, ← c.drags.ensures, c.if-drags.false)
