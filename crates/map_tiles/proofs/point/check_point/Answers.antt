use Rattle.map_tiles.specs.Map.{check_point}
use Rattle.map_tiles.proofs.Maps.{is_map_lem}
use borrow.Author.Rules.{rules}
use Rattle.map_tiles.proofs.point.check_point.Goals as goal

pub tile_at-requires : goal.tile_at-requires
tile_at-requires c = (is_map_lem _ _ c.before.before.requires).wide

pub tile_at-requires-2 : goal.tile_at-requires-2
tile_at-requires-2 c = (is_map_lem _ _ c.before.before.before.requires).high

pub returns : goal.returns
unfolding check_point
returns c = simp (← c.before.before.before.tile_at.ensures.0, ← c.before.before.tile_at-2.ensures.0, ← c.tile_in.ensures)
