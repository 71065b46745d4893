use mathlib.Core.Path.{◌≡◌}
use borrow.Author.Rules.{rules}
use Rattle.map_tiles.specs.Map.{deadly}
use Rattle.map_tiles.specs.Box.{on_deadly, corner_tiles}
use Rattle.map_tiles.proofs.Corners.{character_tiles}
use Rattle.map_tiles.proofs.Maps.{is_map_lem}
use Rattle.map_tiles.proofs.boxes.on_deadly.Goals.{After-tile_at-top}
use Rattle.map_tiles.proofs.boxes.on_deadly.Goals as goal

pub tile_at-right-requires : goal.tile_at-right-requires
tile_at-right-requires c = (is_map_lem _ _ c.before.before.before.requires).wide

pub tile_at-bottom-requires : goal.tile_at-bottom-requires
tile_at-bottom-requires c = (is_map_lem _ _ c.before.before.before.before.before.before.before.requires).high

-- by the two columns and the two rows
by_tiles : (c : After-tile_at-top) → let a = c.before.before.before.before.before.before.before.before.before.before.args in on_deadly a.sides a.tiles.now a.pos ≡ corner_tiles deadly a.sides a.tiles.now c.before.before.before.before.before.tile_at-left.result c.before.before.before.before.before.before.before.tile_at-right.result c.tile_at-top.result c.before.before.before.tile_at-bottom.result
unfolding on_deadly
by_tiles c = simp (character_tiles, ← c.tile_at-top.ensures.0, ← c.before.before.before.tile_at-bottom.ensures.0, ← c.before.before.before.before.before.tile_at-left.ensures.0, ← c.before.before.before.before.before.before.before.tile_at-right.ensures.0)

pub returns-then-is_deadly_at : goal.returns-then-is_deadly_at
unfolding corner_tiles
returns-then-is_deadly_at c = simp (by_tiles (record { before = c.before.before.before; type_inv = record { tiles = c.type_inv.tiles } }), ← c.before.before.is_deadly_at.ensures, c.if-is_deadly_at.true)

pub returns-then-is_deadly_at-2 : goal.returns-then-is_deadly_at-2
unfolding corner_tiles
returns-then-is_deadly_at-2 c = let e = c.before.before.before in simp (by_tiles (record { before = e.before.before; type_inv = record { tiles = c.type_inv.tiles } }), ← e.before.is_deadly_at.ensures, e.if-is_deadly_at.false, ← c.before.before.is_deadly_at-2.ensures, c.if-is_deadly_at-2.true)

pub returns-then-is_deadly_at-3 : goal.returns-then-is_deadly_at-3
unfolding corner_tiles
returns-then-is_deadly_at-3 c =
    let d = c.before.before.before in
    let e = d.before.before in
    simp (by_tiles (record { before = e.before.before; type_inv = record { tiles = c.type_inv.tiles } }), ← e.before.is_deadly_at.ensures, e.if-is_deadly_at.false, ← d.before.is_deadly_at-2.ensures, d.if-is_deadly_at-2.false, ← c.before.before.is_deadly_at-3.ensures, c.if-is_deadly_at-3.true)

pub returns : goal.returns
unfolding corner_tiles
returns c =
    let b = c.before.before in
    let d = b.before.before in
    let e = d.before.before in
    simp (by_tiles (record { before = e.before.before; type_inv = record { tiles = c.type_inv.tiles } }), ← e.before.is_deadly_at.ensures, e.if-is_deadly_at.false, ← d.before.is_deadly_at-2.ensures, d.if-is_deadly_at-2.false, ← b.before.is_deadly_at-3.ensures, b.if-is_deadly_at-3.false, ← c.is_deadly_at-4.ensures)
