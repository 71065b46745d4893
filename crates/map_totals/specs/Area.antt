-- The solid tiles of a rectangle, by reading them all and by running totals. Definitions only.
use Rattle.std.specs.Prelude.{ℕ, zero, suc, ◌+◌, ◌-◌, ◌*◌, ◌/◌, ◌%◌, ◌^◌, cond, ◌&&◌, List, [], ◌∷◌, ◌++◌, leb, get_or, set}
use Rattle.map_tiles.specs.Map.{tile_in, solid}
use Rattle.map_tiles.specs.declared.point.Tile.{Tile}
use Rattle.map_tiles.specs.declared.tiles.Sides.{Sides}

-- ---- by reading them all

-- a solid tile counts 1, any other 0
abbrev pub count_of : Tile → ℕ
count_of x = cond (solid x) 1 0

-- what the tile in a column and a row counts
unfoldable pub solid_at : Sides → List ℕ → ℕ → ℕ → ℕ
solid_at s ts column row = count_of (tile_in s ts column row)

-- the sum of f over n numbers from i on
unfoldable pub sum : (ℕ → ℕ) → ℕ → ℕ → ℕ
sum f i zero = 0
sum f i (suc n) = sum f i n + f (i + n)

-- the solid tiles of a row, n columns of it from `left` on
unfoldable pub solid_row : Sides → List ℕ → ℕ → ℕ → ℕ → ℕ
solid_row s ts left n row = sum (λ column. solid_at s ts column row) left n

-- the solid tiles of a rectangle
unfoldable pub solid_in : Sides → List ℕ → ℕ → ℕ → ℕ → ℕ → ℕ
solid_in s ts left top columns rows = sum (solid_row s ts left columns) top rows

-- ---- running totals

-- n elements, each by its place
unfoldable pub table : (ℕ → ℕ) → ℕ → List ℕ
table f zero = []
table f (suc n) = table f n ++ (f n ∷ [])

-- an entry for each tile, by its column and row; row by row, as the map is
unfoldable pub by_tile : Sides → (ℕ → ℕ → ℕ) → List ℕ
by_tile s f = table (λ k. f (k % s.width) (k / s.width)) (s.width * s.height)

-- each entry is the solid tiles of the rectangle from the map's corner to its tile
unfoldable pub totals_of : Sides → List ℕ → List ℕ
totals_of s ts = by_tile s (λ column row. solid_in s ts 0 0 (suc column) (suc row))

-- the entry where so many columns and rows end; where there are none it lies left of or above the map, and counts as 0
unfoldable pub entry_at : Sides → List ℕ → ℕ → ℕ → ℕ
entry_at s t zero rows = 0
entry_at s t (suc column) zero = 0
entry_at s t (suc column) (suc row) = get_or t (row * s.width + column) 0

-- minus n, modulo 2 ^ 32
abbrev pub minus : ℕ → ℕ
minus n = 2 ^ 32 - n

-- the sum and difference of four entries, modulo 2 ^ 32
unfoldable pub count_in : Sides → List ℕ → ℕ → ℕ → ℕ → ℕ → ℕ
count_in s t left top columns rows =
    (entry_at s t (left + columns) (top + rows) + minus (entry_at s t left (top + rows)) + minus (entry_at s t (left + columns) top) + entry_at s t left top) % 2 ^ 32

-- ---- one tile's byte is changed

-- the byte is written, and no other
unfoldable pub written : Sides → List ℕ → ℕ → ℕ → ℕ → List ℕ
written s ts column row byte = set ts (row * s.width + column) byte

-- the change in a tile's count between two maps, modulo 2 ^ 32
unfoldable pub change_at : Sides → List ℕ → List ℕ → ℕ → ℕ → ℕ
change_at s before after column row = (solid_at s after column row + minus (solid_at s before column row)) % 2 ^ 32

-- n more, modulo 2 ^ 32
abbrev pub added : ℕ → ℕ → ℕ
added n entry = (entry + n) % 2 ^ 32

-- n is added to an entry whose column and row are both the tile's or greater, and to no other
abbrev pub reached : ℕ → ℕ → ℕ → ℕ → ℕ → ℕ → ℕ
reached column row n c r entry = cond (leb column c && leb row r) (added n entry) entry

-- so to each entry of the totals
unfoldable pub changed_totals : Sides → List ℕ → ℕ → ℕ → ℕ → List ℕ
changed_totals s t column row n = by_tile s (λ c r. reached column row n c r (get_or t (r * s.width + c) 0))
