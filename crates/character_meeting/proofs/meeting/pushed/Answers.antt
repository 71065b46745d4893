use borrow.Author.Rules.{rules}
use Rattle.character_meeting.specs.Meeting.{pushed}
use Rattle.character_meeting.proofs.meeting.pushed.Goals as goal

pub returns : goal.returns
unfolding pushed
returns c = simp (← c.sub.ensures, ← c.normalize-dir_to_self.ensures, ← c.additional_vel-additional_vel.ensures, ← c.mul.ensures, ← c.mul-2.ensures, ← c.mul-push.ensures, ← c.add.ensures, ← c.mul-3.ensures)
