-- What reading the map part answers, said by what is written. Definitions only.
use Rattle.std.specs.Prelude.{ℕ, ◌*◌, ◌≤◌, List, Option, Some, None, ◌≡◌, length, take}
use Rattle.game_refusals.specs.Refusals.{bad_text}
use Rattle.text_decimal.specs.Decimal.{digits}
use Rattle.text_decimal.specs.Lines.{ended, All}
use Rattle.text_decimal.specs.Places.{Stands, Absent}
use Rattle.text_map.specs.Map.{most_bytes, IsSide, IsTile, IsMap, head_bytes, tile_bytes, map_bytes}
use Rattle.text_map.specs.declared.map_text.MapPart.{MapPart}

-- the map part of the text s: the sides of the map whose bytes stand there, its tiles at the start of the buffer d, and the place past them;
-- or that no map's bytes do, or the text is too long
unfoldable pub MapAt : List ℕ → List ℕ → Option MapPart → Type 0
MapAt s d (Some p) = (length s ≤ most_bytes) × IsMap p.width p.height (take (p.width * p.height) d) × Stands (map_bytes p.width p.height (take (p.width * p.height) d)) s 0 p.next
MapAt s d None = length s ≤ most_bytes → (w h : ℕ) (ts : List ℕ) → IsMap w h ts → Absent (map_bytes w h ts) s 0

-- document 01's number of an answer
abbrev pub map_number : Option MapPart → ℕ
map_number (Some p) = 0
map_number None = bad_text

-- ---- its parts
unfoldable pub NameAt : List ℕ → List ℕ → ℕ → Option ℕ → Type 0
NameAt name s at (Some next) = Stands name s at next
NameAt name s at None = Absent name s at

unfoldable pub SideAt : ℕ → List ℕ → ℕ → Option (ℕ × ℕ) → Type 0
SideAt stop s at (Some (n, next)) = IsSide n × Stands (ended (digits 10 n) stop) s at next
SideAt stop s at None = (n : ℕ) → IsSide n → Absent (ended (digits 10 n) stop) s at

unfoldable pub HeadAt : List ℕ → Option (ℕ × ℕ × ℕ) → Type 0
HeadAt s (Some (w, h, next)) = IsSide w × IsSide h × Stands (head_bytes w h) s 0 next
HeadAt s None = (w h : ℕ) → IsSide w → IsSide h → Absent (head_bytes w h) s 0

-- the tiles of a map of these sides
unfoldable pub TilesAt : ℕ → ℕ → List ℕ → ℕ → List ℕ → Option ℕ → Type 0
TilesAt w h s at d (Some next) = All IsTile (take (w * h) d) × Stands (tile_bytes w h (take (w * h) d)) s at next
TilesAt w h s at d None = (ts : List ℕ) → length ts ≡ w * h → All IsTile ts → Absent (tile_bytes w h ts) s at
