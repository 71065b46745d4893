use borrow.Author.Rules.{rules}
use Rattle.map_tiles.specs.Box.{corner_tiles}
use Rattle.map_tiles.proofs.boxes.solid_corners.Goals as goal

pub returns-then-is_solid_at : goal.returns-then-is_solid_at
unfolding corner_tiles
returns-then-is_solid_at c = simp (← c.before.before.is_solid_at.ensures, c.if-is_solid_at.true)

pub returns-then-is_solid_at-2 : goal.returns-then-is_solid_at-2
unfolding corner_tiles
returns-then-is_solid_at-2 c = simp (← c.before.before.before.before.is_solid_at.ensures, c.before.before.before.if-is_solid_at.false, ← c.before.before.is_solid_at-2.ensures, c.if-is_solid_at-2.true)

pub returns-then-is_solid_at-3 : goal.returns-then-is_solid_at-3
unfolding corner_tiles
returns-then-is_solid_at-3 c = simp (← c.before.before.before.before.before.before.is_solid_at.ensures, c.before.before.before.before.before.if-is_solid_at.false, ← c.before.before.before.before.is_solid_at-2.ensures, c.before.before.before.if-is_solid_at-2.false, ← c.before.before.is_solid_at-3.ensures, c.if-is_solid_at-3.true)

pub returns : goal.returns
unfolding corner_tiles
returns c = simp (← c.before.before.before.before.before.before.before.is_solid_at.ensures, c.before.before.before.before.before.before.if-is_solid_at.false, ← c.before.before.before.before.before.is_solid_at-2.ensures, c.before.before.before.before.if-is_solid_at-2.false, ← c.before.before.before.is_solid_at-3.ensures, c.before.before.if-is_solid_at-3.false, ← c.is_solid_at-4.ensures)
