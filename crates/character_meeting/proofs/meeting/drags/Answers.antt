use Rattle.character_meeting.specs.Meeting.{drags}
use Rattle.character_meeting.proofs.meeting.drags.Goals as goal

pub returns-then-tuning : goal.returns-then-tuning
unfolding drags
returns-then-tuning c = simp c.if-tuning.true

pub returns : goal.returns
unfolding drags
returns c = simp c.if-tuning.false
