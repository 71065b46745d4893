-- The map part of a session's text. Definitions only.
use Rattle.std.specs.Prelude.{ℕ, zero, suc, ◌*◌, ◌≤◌, ◌<◌, List, [], ◌∷◌, ◌++◌, map, ◌≡◌, pos, length, take, drop}
use Rattle.text_decimal.specs.Lines.{line, All}

-- a text of more bytes is at fault
abbrev pub most_bytes : ℕ
most_bytes = 65536

-- no such text holds more tiles: each takes two bytes
abbrev pub most_tiles : ℕ
most_tiles = 32768

-- a side is from 1 to 1,024
abbrev pub IsSide : ℕ → Type 0
IsSide n = (1 ≤ n) × (n ≤ 1024)

-- a tile is from 0 to 255
abbrev pub IsTile : ℕ → Type 0
IsTile t = t < 256

-- width, height and the tiles, row by row
pub record IsMap (w h : ℕ) (ts : List ℕ) : Type 0 where
  pub width : IsSide w
  pub height : IsSide h
  pub count : length ts ≡ w * h
  pub tiles : All IsTile ts

-- the lines of names: "width height", "tiles", "call a b c d e f"
abbrev pub size_names : List ℕ
size_names = 119 ∷ 105 ∷ 100 ∷ 116 ∷ 104 ∷ 32 ∷ 104 ∷ 101 ∷ 105 ∷ 103 ∷ 104 ∷ 116 ∷ 10 ∷ []

abbrev pub tile_names : List ℕ
tile_names = 116 ∷ 105 ∷ 108 ∷ 101 ∷ 115 ∷ 10 ∷ []

abbrev pub call_names : List ℕ
call_names = 99 ∷ 97 ∷ 108 ∷ 108 ∷ 32 ∷ 97 ∷ 32 ∷ 98 ∷ 32 ∷ 99 ∷ 32 ∷ 100 ∷ 32 ∷ 101 ∷ 32 ∷ 102 ∷ 10 ∷ []

-- h lines of w tiles
unfoldable pub tile_bytes : ℕ → ℕ → List ℕ → List ℕ
tile_bytes w zero ts = []
tile_bytes w (suc h) ts = line (map pos (take w ts)) ++ tile_bytes w h (drop w ts)

-- what stands before the tiles
abbrev pub head_bytes : ℕ → ℕ → List ℕ
head_bytes w h = size_names ++ (line (pos w ∷ pos h ∷ []) ++ tile_names)

-- the map part, up to the first call line
unfoldable pub map_bytes : ℕ → ℕ → List ℕ → List ℕ
map_bytes w h ts = head_bytes w h ++ (tile_bytes w h ts ++ call_names)
