use borrow.Author.Rules.{rules}
use Rattle.character_meeting.specs.Meeting.{pull}
use Rattle.character_meeting.proofs.meeting.pull.Goals as goal

pub returns : goal.returns
unfolding pull
returns c = simp (← c.saturated_add.ensures, ← c.saturated_add-2.ensures, ← c.new.ensures)
