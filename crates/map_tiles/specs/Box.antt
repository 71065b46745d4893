-- The corners of a box: `check_box` of lib.rs, and whether one is on a deadly tile. Definitions only.
use Rattle.std.specs.Prelude.{ℕ, ◌≡◌, Bool, false, ◌||◌, List, Float}
use Rattle.std.specs.Float.{binary32}
use Rattle.std.specs.Float.Ieee.{neg, of_bits}
use Rattle.game_constants.specs.Constants.{character_size}
use Rattle.num_convert.specs.Convert.{quantize}
use Rattle.num_vec2.specs.Vec2.{vnew, vadd, vsub, vmul}
use Rattle.num_vec2.specs.declared.vec2.{vec2}
use Rattle.map_tiles.specs.Map.{tile_in, check_point, solid, deadly}
use Rattle.map_tiles.specs.declared.point.Tile.{Tile}
use Rattle.map_tiles.specs.declared.tiles.Sides.{Sides}

-- 0.5
abbrev pub half : Float
half = of_bits binary32 0x3f00_0000

-- whether f is true of the tile of one of the four corners of a box
abbrev pub any_corner : (Tile → Bool) → Sides → List ℕ → vec2 → vec2 → Bool
any_corner f s ts at box =
    let diff1 = vmul box half in
    let diff2 = vnew diff1.x (neg diff1.y) in
    f (check_point s ts (vadd at diff1))
    || f (check_point s ts (vsub at diff1))
    || f (check_point s ts (vadd at diff2))
    || f (check_point s ts (vsub at diff2))

-- whether one is on a solid tile
unfoldable pub check_box : Sides → List ℕ → vec2 → vec2 → Bool
check_box s ts at box = any_corner solid s ts at box

-- a box is clear when it finds nothing
abbrev pub Clear : Sides → List ℕ → vec2 → vec2 → Type 0
Clear s ts at box = check_box s ts at box ≡ false

-- a character's box is 28 by 28
abbrev pub character_box : vec2
character_box = vnew character_size character_size

-- whether a character there has a corner on a deadly tile
unfoldable pub on_deadly : Sides → List ℕ → vec2 → Bool
on_deadly s ts p = any_corner deadly s ts p character_box

-- each coordinate to the nearest whole number and back
unfoldable pub vquantize : vec2 → vec2
vquantize p = vnew (quantize p.x) (quantize p.y)

-- `any_corner` by the columns and rows that the corners are in
unfoldable pub corner_tiles : (Tile → Bool) → Sides → List ℕ → ℕ → ℕ → ℕ → ℕ → Bool
corner_tiles f s ts left right top bottom = f (tile_in s ts right bottom) || f (tile_in s ts left top) || f (tile_in s ts right top) || f (tile_in s ts left bottom)
