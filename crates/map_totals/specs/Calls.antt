-- The three calls: what each answers, and what it leaves in what was lent. Refusal 1, then 14; a refusal leaves all as it was. Definitions only.
use Rattle.std.specs.Prelude.{ℕ, ◌+◌, ◌*◌, Bool, false, cond, ◌&&◌, List, leb, eqb, ℤ, pos, negsuc, length}
use Rattle.game_refusals.specs.Refusals.{bad_map, bad_area}
use Rattle.map_tiles.specs.Map.{is_map, count}
use Rattle.map_tiles.specs.declared.tiles.Sides.{Sides}
use Rattle.map_totals.specs.Area.{totals_of, count_in, written, change_at, changed_totals}

-- ---- 14

-- one or more tiles from `from` on, all within a side
unfoldable pub is_span : ℤ → ℤ → ℕ → Bool
is_span (pos from) (pos n) side = leb 1 n && leb (from + n) side
is_span (pos from) (negsuc n) side = false
is_span (negsuc from) n side = false

-- a rectangle that has tiles, and none outside the map
unfoldable pub is_area : Sides → ℤ → ℤ → ℤ → ℤ → Bool
is_area s left top columns rows = is_span left columns s.width && is_span top rows s.height

-- an entry for each tile
unfoldable pub is_totals : Sides → List ℕ → Bool
is_totals s t = eqb (length t) (s.width * s.height)

-- what a call answers: refused with 1 where there is no map, with 14 where what it asks does not fit it
abbrev pub on_map : {A : Type 0} → Sides → List ℕ → Bool → (ℕ → A) → A → A
on_map s ts fits refused a = cond (is_map s ts) (cond fits a (refused bad_area)) (refused bad_map)

-- ---- build

-- a number, and the totals that are left
pub record LeftTotals : Type 0 where
  pub number : ℕ
  pub totals : List ℕ

-- the totals of the map
unfoldable pub build_in : Sides → List ℕ → List ℕ → LeftTotals
build_in s ts t =
    on_map s ts (is_totals s t) (λ n. record { number = n; totals = t })
    (record { number = 0; totals = totals_of s ts })

-- ---- count

-- a number, and the count that is left
pub record LeftCount : Type 0 where
  pub number : ℕ
  pub count : ℕ

-- the count of a rectangle, whatever the totals hold
unfoldable pub area_in : Sides → List ℕ → List ℕ → ℤ → ℤ → ℤ → ℤ → ℕ → LeftCount
area_in s ts t left top columns rows k =
    on_map s ts (is_totals s t && is_area s left top columns rows) (λ n. record { number = n; count = k })
    (record { number = 0; count = count_in s t (count left) (count top) (count columns) (count rows) })

-- ---- change

-- a number, and the map's bytes and the totals that are left
pub record LeftChange : Type 0 where
  pub number : ℕ
  pub tiles : List ℕ
  pub totals : List ℕ

-- the byte is written, and the totals get the change in its tile's count
unfoldable pub changed : Sides → List ℕ → List ℕ → ℕ → ℕ → ℕ → LeftChange
changed s ts t column row byte =
    let after = written s ts column row byte in
    record { number = 0; tiles = after; totals = changed_totals s t column row (change_at s ts after column row) }

-- one tile is changed
unfoldable pub change_in : Sides → List ℕ → List ℕ → ℤ → ℤ → ℕ → LeftChange
change_in s ts t column row byte =
    on_map s ts (is_totals s t && is_area s column row (pos 1) (pos 1)) (λ n. record { number = n; tiles = ts; totals = t })
    (changed s ts t (count column) (count row) byte)
