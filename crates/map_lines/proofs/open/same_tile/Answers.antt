use borrow.Author.Rules.{rules}
use borrow.Author.Tests.{eq-eqb, ne_eqb}
use Rattle.map_lines.specs.OpenTurns.{same_tile}
use Rattle.map_lines.proofs.open.same_tile.Goals as goal

pub returns-then-tile_at : goal.returns-then-tile_at
unfolding same_tile
returns-then-tile_at c = simp (← c.tile_at.ensures.0, ← c.tile_at-2.ensures.0, eq-eqb _ _ c.if-tile_at.true, ← c.tile_at-then-tile_at.ensures.0, ← c.tile_at-then-tile_at-2.ensures.0)

pub returns : goal.returns
unfolding same_tile
returns c = simp (← c.tile_at.ensures.0, ← c.tile_at-2.ensures.0, ne_eqb _ _ c.if-tile_at.false)
