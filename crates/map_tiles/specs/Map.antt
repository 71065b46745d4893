-- The map, and the tile that a point is on. Definitions only.
use Rattle.std.specs.Prelude.{ℕ, ◌+◌, ◌*◌, Bool, true, false, cond, ◌&&◌, List, leb, eqb, length, get_or, ℤ, pos, negsuc}
use Rattle.num_vec2.specs.declared.vec2.{vec2}
use Rattle.map_corners.specs.Tile.{tile_at}
use Rattle.map_tiles.specs.declared.tiles.Sides.{Sides}
use Rattle.map_tiles.specs.declared.point.Tile.{Tile}
use Rattle.map_tiles.specs.declared.point.Tile.TheVariants.{Open, Normal, Deadly, Unhookable}

-- width and height by two numbers
abbrev pub sides_of : ℕ → ℕ → Sides
sides_of w h = record { width = w; height = h }

-- from 1 to 1,024
unfoldable pub is_side : ℕ → Bool
is_side n = leb 1 n && leb n 1024

-- two such sides, and a byte for each tile: where it is false, refusal 1 fits
unfoldable pub is_map : Sides → List ℕ → Bool
unfolding is_side
is_map s ts = is_side s.width && is_side s.height && eqb (length ts) (s.width * s.height)

-- byte 1 is Normal, 2 Deadly, 3 Unhookable, every other byte open
abbrev pub tile_of_byte : ℕ → Tile
tile_of_byte b = cond (eqb b 1) Normal (cond (eqb b 2) Deadly (cond (eqb b 3) Unhookable Open))

-- the tile in a column and a row; the bytes stand row by row
unfoldable pub tile_in : Sides → List ℕ → ℕ → ℕ → Tile
tile_in s ts column row = tile_of_byte (get_or ts (row * s.width + column) 0)

-- the tile of a point, each coordinate by the point rule
unfoldable pub check_point : Sides → List ℕ → vec2 → Tile
check_point s ts p = tile_in s ts (tile_at s.width p.x) (tile_at s.height p.y)

-- Normal and Unhookable are solid
abbrev pub solid : Tile → Bool
solid Open = false
solid Normal = true
solid Deadly = false
solid Unhookable = true

abbrev pub deadly : Tile → Bool
deadly Open = false
deadly Normal = false
deadly Deadly = true
deadly Unhookable = false

-- how often `for _ in 0..z` turns
abbrev pub count : ℤ → ℕ
count (pos n) = n
count (negsuc n) = 0
