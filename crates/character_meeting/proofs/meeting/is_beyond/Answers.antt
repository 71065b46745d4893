use borrow.Author.Rules.{rules}
use Rattle.character_meeting.specs.Meeting.{is_beyond}
use Rattle.character_meeting.proofs.meeting.is_beyond.Goals as goal

pub returns : goal.returns
unfolding is_beyond
returns c = simp (← c.sub-way.ensures, ← c.dot.ensures)
