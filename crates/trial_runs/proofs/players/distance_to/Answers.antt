use mathlib.Core.Path.{◌≡◌, ap, ap₂, ◌∙◌}
use Prim.Native.Nat.{ℕ, ◌+◌, ◌≤◌, ◌<◌}
use native.Mathlib.Omega.{arith}
use mir.Facts.{to_z-of_z}
use Rattle.num_vec2.specs.declared.vec2.{vec2}
use Rattle.map_corners.specs.Tile.{tile_at}
use Rattle.map_tiles.specs.declared.tiles.Sides.{Sides}
use Rattle.map_tiles.proofs.Maps.{is_side_lem}
use Rattle.world.specs.Calls.{point_of}
use Rattle.trial_rule.specs.Trial.{tiles_between, distance_to}
use Rattle.trial_runs.proofs.players.distance_to.Goals as goal

few : (a b c d w h : ℕ) → a < w → b < h → c < w → d < h → w ≤ 1024 → h ≤ 1024 → tiles_between a c + tiles_between b d < 2048
few a b c d w h i j k l m n = omega arith

-- the sum of what the code found
sum_is : (s : Sides) (column row : ℕ) (p : vec2) (a b u v : ℕ) → a ≡ tile_at s.width p.x → b ≡ tile_at s.height p.y → u ≡ tiles_between a column → v ≡ tiles_between b row → u + v ≡ distance_to s column row p
unfolding distance_to
sum_is s column row p a b u v e f g h = rw (g, h, e, f)

pub tile_at-requires : goal.tile_at-requires
tile_at-requires c = (is_side_lem _ c.requires.0).0

pub tile_at-requires-2 : goal.tile_at-requires-2
tile_at-requires-2 c = (is_side_lem _ c.requires.1).0

pub overflow_add-result : goal.overflow_add-result
overflow_add-result c =
    let p = c.requires in
    let f = c.ranges in
    omega (arith, c.tiles_between-down.ensures, c.tile_at-2.ensures.1, c.tiles_between-across.ensures, c.tile_at.ensures.1, (is_side_lem _ p.0).1, (is_side_lem _ p.1).1, f.column, f.row)

pub returns : goal.returns
returns c =
    let s = c in
    let a = s.args in
    let o = c.point_of-place in
    let place : o.result ≡ point_of a.x a.y = o.ensures ∙ ap₂ point_of (to_z-of_z s.ranges.x) (to_z-of_z s.ranges.y) in (
      sum_is a.sides a.column a.row o.result _ _ _ _ c.tile_at.ensures.0 c.tile_at-2.ensures.0 c.tiles_between-across.ensures c.tiles_between-down.ensures ∙ ap (distance_to a.sides a.column a.row) place,
      λ k l. rw (c.tiles_between-down.ensures, c.tiles_between-across.ensures) (few _ _ _ _ _ _ c.tile_at.ensures.1 c.tile_at-2.ensures.1 k l (is_side_lem _ s.requires.0).1 (is_side_lem _ s.requires.1).1),
    )
