-- The count of a rectangle and the change of an entry over integers, whatever the totals hold. Definitions only; proofs/Integers.antt proves each.
use Rattle.std.specs.Prelude.{ℕ, ◌+◌, ◌*◌, ◌≤◌, ◌<◌, List, ◌≡◌, T, ℤ, pos, negsuc, ◌+ℤ◌, ◌-ℤ◌, ◌*ℤ◌, length, get_or}
use Rattle.map_tiles.specs.Map.{is_map}
use Rattle.map_tiles.specs.declared.tiles.Sides.{Sides}
use Rattle.map_totals.specs.Area.{solid_at}
use Rattle.map_totals.specs.Calls.{area_in, change_in}
use Rattle.map_totals.specs.Laws.{WithinSide}

-- n is the remainder of z modulo 2^32
pub record Modulo32 (n : ℕ) (z : ℤ) : Type 0 where
  pub small : n < 4294967296
  pub turns : ℤ
  pub same : pos n ≡ z +ℤ turns *ℤ pos 4294967296

-- totals of u32, one for each tile
pub record Entries (s : Sides) (t : List ℕ) : Type 0 where
  pub long : length t ≡ s.width * s.height
  pub small : (i : ℕ) → get_or t i 0 < 4294967296

-- the entry in a column and a row; left of and above the map it is 0
abbrev pub entry_in : Sides → List ℕ → ℤ → ℤ → ℤ
entry_in s t (pos column) (pos row) = pos (get_or t (row * s.width + column) 0)
entry_in s t (pos column) (negsuc row) = pos 0
entry_in s t (negsuc column) row = pos 0

-- the count is the entry at the rectangle's last column and row, less the one left of its last row and the one above its last column, plus the one
-- above and left of it, modulo 2^32
abbrev pub CountsEntries : Type 0
CountsEntries = (s : Sides) (ts t : List ℕ) (left top columns rows : ℤ) (k : ℕ) → T (is_map s ts) → Entries s t → WithinSide left columns s.width → WithinSide top rows s.height →
    let right = left +ℤ columns -ℤ pos 1 in
    let bottom = top +ℤ rows -ℤ pos 1 in
    let before = left -ℤ pos 1 in
    let above = top -ℤ pos 1 in
    Modulo32 (area_in s ts t left top columns rows k).count (entry_in s t right bottom -ℤ entry_in s t before bottom -ℤ entry_in s t right above +ℤ entry_in s t before above)

-- an entry whose column and row are both the changed tile's or greater becomes itself, plus the tile's count after the change, less the one before
-- it, modulo 2^32
abbrev pub ChangeAdds : Type 0
ChangeAdds = (s : Sides) (ts t : List ℕ) (column row byte c r : ℕ) → T (is_map s ts) → Entries s t → column ≤ c → c < s.width → row ≤ r → r < s.height →
    let left = change_in s ts t (pos column) (pos row) byte in
    Modulo32 (get_or left.totals (r * s.width + c) 0) (pos (get_or t (r * s.width + c) 0) +ℤ pos (solid_at s left.tiles column row) -ℤ pos (solid_at s ts column row))
