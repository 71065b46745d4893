use borrow.Author.Rules.{rules}
use Rattle.character_meeting.specs.Meeting.{additional_vel}
use Rattle.character_meeting.proofs.meeting.additional_vel.Goals as goal

pub returns-then-length : goal.returns-then-length
unfolding additional_vel
returns-then-length c = simp (← c.length.ensures, c.if-length.true, ← c.normalize.ensures, ← c.dot.ensures)

pub returns : goal.returns
unfolding additional_vel
returns c = simp (← c.length.ensures, c.if-length.false)
