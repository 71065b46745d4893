use borrow.Author.Rules.{rules}
use Rattle.character_meeting.specs.Meeting.{pulled}
use Rattle.character_meeting.proofs.meeting.pulled.Goals as goal

pub returns : goal.returns
unfolding pulled
returns c = simp (← c.sub.ensures, ← c.normalize-dir.ensures, ← c.drag_accel-accel.ensures, ← c.pull.ensures)
