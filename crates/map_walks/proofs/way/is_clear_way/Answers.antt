use borrow.Author.Rules.{rules}
use borrow.Author.Tests.{not-true, not-false}
use Rattle.map_tiles.proofs.Maps.{is_map_lem}
use Rattle.map_walks.specs.Way.{is_clear_way}
use Rattle.map_walks.proofs.way.is_clear_way.Goals as goal

pub returns-then-not-has_span : goal.returns-then-not-has_span
unfolding is_clear_way
returns-then-not-has_span c = simp (← c.mul-half.ensures, ← c.has_span.ensures, c.if-not-has_span.true)

pub returns-then-not-has_span-2 : goal.returns-then-not-has_span-2
unfolding is_clear_way
returns-then-not-has_span-2 c = simp (← c.mul-half.ensures, ← c.has_span.ensures, c.if-not-has_span.false, ← c.has_span-2.ensures, c.if-not-has_span-2.true)

pub span_of-columns-requires : goal.span_of-columns-requires
span_of-columns-requires c = (is_map_lem _ _ c.requires).wide

pub span_of-rows-requires : goal.span_of-rows-requires
span_of-rows-requires c = (is_map_lem _ _ c.requires).high

pub returns : goal.returns
unfolding is_clear_way
returns c = let d = c.before.before.before.before in simp (← d.mul-half.ensures, ← d.has_span.ensures, d.if-not-has_span.false, ← d.has_span-2.ensures, d.if-not-has_span-2.false, ← c.span_of-columns.ensures.0, ← c.span_of-rows.ensures.0, ← c.solid_among.ensures)
