use borrow.Author.Rules.{rules}
use Rattle.map_walks.specs.Way.{span_of}
use Rattle.map_walks.proofs.way.span_of.Goals as goal

pub returns-then-a-b : goal.returns-then-a-b
unfolding span_of
returns-then-a-b c = (simp (c.if-a-b.true, ← c.tile_at.ensures.0, ← c.tile_at-then-a-b.ensures.0), c.tile_at-then-a-b.ensures.1)

pub returns : goal.returns
unfolding span_of
returns c = (simp (c.if-a-b.false, ← c.tile_at-2.ensures.0, ← c.tile_at-3.ensures.0), c.tile_at-3.ensures.1)
