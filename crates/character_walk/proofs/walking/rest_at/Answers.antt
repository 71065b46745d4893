use borrow.Author.Rules.{rules}
use Rattle.character_walk.specs.Walking.{rest_at}
use Rattle.character_walk.proofs.walking.rest_at.Goals as goal

pub returns-then-fraction : goal.returns-then-fraction
unfolding rest_at
returns-then-fraction c = simp c.if-fraction.true

pub returns-then-distance : goal.returns-then-distance
unfolding rest_at
returns-then-distance c = simp (c.if-fraction.false, ← c.distance.ensures, ← c.distance-2.ensures, c.if-distance.true)

pub returns : goal.returns
unfolding rest_at
returns c = simp (c.if-fraction.false, ← c.distance.ensures, ← c.distance-2.ensures, c.if-distance.false)
