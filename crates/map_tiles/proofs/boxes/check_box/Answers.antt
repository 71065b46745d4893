use borrow.Author.Rules.{rules}
use Rattle.map_tiles.specs.Map.{solid}
use Rattle.map_tiles.specs.Box.{check_box}
use Rattle.map_tiles.proofs.Corners.{box_tiles}
use Rattle.map_tiles.proofs.Maps.{is_map_lem}
use Rattle.map_tiles.proofs.boxes.check_box.Goals as goal

pub tile_at-right-requires : goal.tile_at-right-requires
tile_at-right-requires c = (is_map_lem _ _ c.before.before.before.before.before.requires).wide

pub tile_at-bottom-requires : goal.tile_at-bottom-requires
tile_at-bottom-requires c = (is_map_lem _ _ c.before.before.before.before.before.before.before.before.before.before.before.requires).high

pub returns : goal.returns
unfolding check_box
returns c = simp (box_tiles solid, ← c.before.before.before.before.before.before.before.before.before.before.before.before.before.before.mul-half.ensures, ← c.before.before.before.before.before.before.before.before.before.before.before.tile_at-right.ensures.0, ← c.before.before.before.before.before.before.before.before.tile_at-left.ensures.0, ← c.before.before.before.before.before.tile_at-bottom.ensures.0, ← c.before.before.tile_at-top.ensures.0, ← c.solid_corners.ensures)
