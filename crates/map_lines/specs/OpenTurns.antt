-- The turns of a line before the first that meets a solid tile. Definitions only.
use Rattle.std.specs.Prelude.{ℕ, ◌≤◌, ◌<◌, ◌≡◌, Bool, false, ◌&&◌, List, eqb, Float}
use Rattle.std.specs.Float.{binary32}
use Rattle.std.specs.Float.Ieee.{le, neg, of_bits}
use Rattle.num_convert.specs.Number.{c1}
use Rattle.num_vec2.specs.Vec2.{vsub}
use Rattle.num_vec2.specs.declared.vec2.{vec2}
use Rattle.map_corners.specs.Tile.{tile_at}
use Rattle.map_tiles.specs.Map.{check_point, solid}
use Rattle.map_tiles.specs.declared.tiles.Sides.{Sides}
use Rattle.map_lines.specs.Points.{point_at}

-- 2147483648.0
abbrev pub c31 : Float
c31 = of_bits binary32 0x4f00_0000

-- 131072.0
abbrev pub c17 : Float
c17 = of_bits binary32 0x4800_0000

unfoldable pub is_bounded : Float → Bool
is_bounded x = le (neg c31) x && le x c31

-- a line whose points are all finite: its start and its way are bounded, and its length is from 1 to 131,072
unfoldable pub is_bounded_line : vec2 → vec2 → Float → Bool
is_bounded_line from to dist =
    let way = vsub to from in
    ((is_bounded from.x && is_bounded from.y) && (is_bounded way.x && is_bounded way.y)) && (le c1 dist && le dist c17)

abbrev pub same_column : Sides → vec2 → vec2 → Bool
same_column s a b = eqb (tile_at s.width a.x) (tile_at s.width b.x)

abbrev pub same_row : Sides → vec2 → vec2 → Bool
same_row s a b = eqb (tile_at s.height a.y) (tile_at s.height b.y)

-- a and b are on one tile
unfoldable pub same_tile : Sides → vec2 → vec2 → Bool
same_tile s a b = same_column s a b && same_row s a b

-- turn i meets no solid tile
abbrev pub OpenTurn : Sides → List ℕ → vec2 → vec2 → Float → ℕ → Type 0
OpenTurn s ts from to dist i = solid (check_point s ts (point_at from to dist i)) ≡ false

-- of at most `turns` turns the first r are open
pub record OpenTurns (s : Sides) (ts : List ℕ) (from to : vec2) (dist : Float) (turns r : ℕ) : Type 0 where
  pub within : r ≤ turns
  pub each_open : (i : ℕ) → i < r → OpenTurn s ts from to dist i
