use borrow.Author.Rules.{rules}
use Rattle.character_meeting.specs.Meeting.{push}
use Rattle.character_meeting.proofs.meeting.push.Goals as goal

pub returns-then-distance-2 : goal.returns-then-distance-2
unfolding push
returns-then-distance-2 c = simp (c.if-player_collision.true, c.if-distance.true, c.if-distance-2.true, ← c.pushed.ensures)

pub returns-else-distance-2 : goal.returns-else-distance-2
unfolding push
returns-else-distance-2 c = simp (c.if-player_collision.true, c.if-distance.true, c.if-distance-2.false)

pub returns-else-distance : goal.returns-else-distance
unfolding push
returns-else-distance c = simp (c.if-player_collision.true, c.if-distance.false)

pub returns-else-player_collision : goal.returns-else-player_collision
unfolding push
returns-else-player_collision c = simp c.if-player_collision.false
