use borrow.Author.Rules.{rules}
use Rattle.character_meeting.specs.Meeting.{dragged}
use Rattle.character_meeting.proofs.meeting.dragged.Goals as goal

pub returns : goal.returns
unfolding dragged
returns c = simp (← c.sub.ensures, ← c.normalize-dir.ensures, ← c.drag_accel-accel.ensures, ← c.pull.ensures)
