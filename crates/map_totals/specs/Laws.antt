-- What is claimed of the calls. Definitions only; proofs/ proves each.
use Rattle.std.specs.Prelude.{ℕ, suc, ◌+◌, ◌*◌, ◌%◌, ◌^◌, ◌≤◌, ◌<◌, true, false, List, ◌⊎◌, ◌≢◌, ◌≡◌, T, ℤ, pos, ◌+ℤ◌, length, get_or, ◌≤ℤ◌}
use Rattle.map_tiles.specs.Map.{is_map, tile_in, solid, count}
use Rattle.map_tiles.specs.declared.tiles.Sides.{Sides}
use Rattle.map_totals.specs.Area.{solid_in, totals_of, entry_at, written, change_at}
use Rattle.map_totals.specs.Calls.{is_totals, is_area, build_in, area_in, change_in}

-- one or more tiles from the first on, and none of them outside a side
pub record WithinSide (first n : ℤ) (side : ℕ) : Type 0 where
  pub starts : pos 0 ≤ℤ first
  pub some : pos 1 ≤ℤ n
  pub ends : (first +ℤ n) ≤ℤ pos side

-- the number of a call: 1 where there is no map, else 14 where what is asked does not fit it, else 0
pub record Numbered (s : Sides) (ts : List ℕ) (fits : Type 0) (number : ℕ) : Type 0 where
  pub no_map : is_map s ts ≡ false → number ≡ 1
  pub unfit : is_map s ts ≡ true → (fits → ⊥) → number ≡ 14
  pub fit : is_map s ts ≡ true → fits → number ≡ 0

-- there has to be one entry for each tile, and a rectangle or a tile has to have tiles and none outside the map; nothing else is refused
pub record AreaNumbers : Type 0 where
  pub build : (s : Sides) (ts t : List ℕ) → Numbered s ts (length t ≡ s.width * s.height) (build_in s ts t).number
  pub area : (s : Sides) (ts t : List ℕ) (left top columns rows : ℤ) (k : ℕ) → Numbered s ts ((length t ≡ s.width * s.height) × WithinSide left columns s.width × WithinSide top rows s.height) (area_in s ts t left top columns rows k).number
  pub change : (s : Sides) (ts t : List ℕ) (column row : ℤ) (byte : ℕ) → Numbered s ts ((length t ≡ s.width * s.height) × WithinSide column (pos 1) s.width × WithinSide row (pos 1) s.height) (change_in s ts t column row byte).number

-- on totals built from this map, the count of every rectangle is the number of solid tiles found by reading them all
abbrev pub CountsSolid : Type 0
CountsSolid = (s : Sides) (ts t : List ℕ) (left top columns rows : ℤ) (k : ℕ) → T (is_map s ts) → T (is_totals s t) → T (is_area s left top columns rows) → area_in s ts (build_in s ts t).totals left top columns rows k ≡ record { number = 0; count = solid_in s ts (count left) (count top) (count columns) (count rows) }

-- none are found just where no tile of the rectangle is solid
abbrev pub ClearArea : Type 0
ClearArea = (s : Sides) (ts : List ℕ) (left top columns rows : ℕ) → (solid_in s ts left top columns rows ≡ 0 → (i j : ℕ) → i < columns → j < rows → solid (tile_in s ts (left + i) (top + j)) ≡ false) × (((i j : ℕ) → i < columns → j < rows → solid (tile_in s ts (left + i) (top + j)) ≡ false) → solid_in s ts left top columns rows ≡ 0)

-- a change writes the tile's byte, and no other
abbrev pub ChangeWrites : Type 0
ChangeWrites = (s : Sides) (ts t : List ℕ) (column row : ℤ) (byte c r : ℕ) → T (is_map s ts) → T (is_totals s t) → T (is_area s column row (pos 1) (pos 1)) → c < s.width → r < s.height →
    let left = (change_in s ts t column row byte).tiles in
    (length left ≡ length ts)
    × ((c ≡ count column) × (r ≡ count row) → get_or left (r * s.width + c) 0 ≡ byte)
    × ((c ≢ count column) ⊎ (r ≢ count row) → get_or left (r * s.width + c) 0 ≡ get_or ts (r * s.width + c) 0)

-- totals that were right for the map before are right for the changed one
abbrev pub ChangeFollows : Type 0
ChangeFollows = (s : Sides) (ts : List ℕ) (column row : ℤ) (byte : ℕ) → T (is_map s ts) → T (is_area s column row (pos 1) (pos 1)) → let after = written s ts (count column) (count row) byte in change_in s ts (totals_of s ts) column row byte ≡ record { number = 0; tiles = after; totals = totals_of s after }

-- whatever the totals held, an entry whose column and row are both the tile's or greater gets the change in its count, and no other is touched
abbrev pub ChangeReaches : Type 0
ChangeReaches = (s : Sides) (ts t : List ℕ) (column row : ℤ) (byte c r : ℕ) → T (is_map s ts) → T (is_totals s t) → T (is_area s column row (pos 1) (pos 1)) → c < s.width → r < s.height →
    let after = written s ts (count column) (count row) byte in
    let left = (change_in s ts t column row byte).totals in
    ((count column ≤ c) × (count row ≤ r) → entry_at s left (suc c) (suc r) ≡ (entry_at s t (suc c) (suc r) + change_at s ts after (count column) (count row)) % 2 ^ 32)
    × ((c < count column) ⊎ (r < count row) → entry_at s left (suc c) (suc r) ≡ entry_at s t (suc c) (suc r))
