use borrow.Author.Rules.{rules}
use Rattle.character_hook.specs.Hooking.{nearer}
use Rattle.character_hook.proofs.hooking.nearer.Goals as goal

pub returns-then-distance : goal.returns-then-distance
unfolding nearer
returns-then-distance c = simp (← c.closest_point_on_line-closest.ensures, ← c.distance.ensures, c.if-distance.true, ← c.distance-then-distance.ensures, ← c.closer.ensures)

pub returns : goal.returns
unfolding nearer
returns c = simp (← c.closest_point_on_line-closest.ensures, ← c.distance.ensures, c.if-distance.false)
