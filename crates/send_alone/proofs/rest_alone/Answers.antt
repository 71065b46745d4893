use borrow.Author.Tests.{lt-leb, le-leb}
use Rattle.send_alone.specs.Alone.{rest_alone}
use Rattle.send_alone.proofs.rest_alone.Goals as goal

pub returns-then-player_turns-gt-MOST_TURNS : goal.returns-then-player_turns-gt-MOST_TURNS
unfolding rest_alone
returns-then-player_turns-gt-MOST_TURNS c = simp (c.if-player_collision.true, ← c.distance.ensures, ← c.player_turns.ensures, lt-leb _ _ c.if-player_turns-gt-MOST_TURNS.true)

pub returns-else-player_turns-gt-MOST_TURNS : goal.returns-else-player_turns-gt-MOST_TURNS
unfolding rest_alone
returns-else-player_turns-gt-MOST_TURNS c = simp (c.if-player_collision.true, ← c.distance.ensures, ← c.player_turns.ensures, le-leb _ _ c.if-player_turns-gt-MOST_TURNS.false)

pub returns-else-player_collision : goal.returns-else-player_collision
unfolding rest_alone
returns-else-player_collision c = simp c.if-player_collision.false
