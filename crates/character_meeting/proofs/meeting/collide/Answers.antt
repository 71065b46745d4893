use mathlib.Core.Path.{sym, ◌∙◌}
use borrow.Author.Rules.{rules}
use Rattle.character_meeting.proofs.FarPush.{far_push}
use Rattle.character_meeting.proofs.meeting.collide.Goals as goal

pub returns-then-is_beyond : goal.returns-then-is_beyond
returns-then-is_beyond c = let a = c.args in far_push a.pos a.vel a.other a.player_collision (sym c.is_beyond.ensures ∙ c.if-is_beyond.true)

pub returns : goal.returns
returns c = simp (c.push.ensures, c.distance.ensures)
