use Rattle.character_hook.specs.Hooking.{closer}
use Rattle.character_hook.proofs.hooking.closer.Goals as goal

pub returns-then-not-distance-nearest : goal.returns-then-not-distance-nearest
unfolding closer
returns-then-not-distance-nearest c = simp (c.in-Some.is, c.if-not-distance-nearest.true)

pub returns-else-not-distance-nearest : goal.returns-else-not-distance-nearest
unfolding closer
returns-else-not-distance-nearest c = simp (c.in-Some.is, c.if-not-distance-nearest.false)

pub returns-in_default : goal.returns-in_default
unfolding closer
returns-in_default c = simp c.in_default.is
