use borrow.Author.Rules.{rules}
use Rattle.character_meeting.specs.Meeting.{pull_on}
use Rattle.character_meeting.proofs.meeting.pull_on.Goals as goal

pub returns-then-drags : goal.returns-then-drags
unfolding pull_on
returns-then-drags c = simp (← c.distance-distance.ensures, ← c.drags.ensures, c.if-drags.true, ← c.pulled-vel.ensures)

pub returns : goal.returns
unfolding pull_on
returns c = simp (← c.distance-distance.ensures, ← c.drags.ensures, c.if-drags.false)
