use Rattle.map_walks.specs.Way.{has_span}
use Rattle.map_walks.proofs.way.has_span.Goals as goal

pub returns-then-h-2 : goal.returns-then-h-2
unfolding has_span
returns-then-h-2 c = simp (c.if-h.true, c.if-h-2.true)

pub returns-else-h-2 : goal.returns-else-h-2
unfolding has_span
returns-else-h-2 c = simp (c.if-h.true, c.if-h-2.false)

pub returns-else-h : goal.returns-else-h
unfolding has_span
returns-else-h c = simp c.if-h.false
