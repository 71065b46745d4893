-- On totals built from a map, the count is the number of solid tiles found by reading them all. Assumes nothing.
use Prim.Native.Nat.{ℕ, zero, suc, ◌+◌, ◌*◌, ◌≤◌, ◌<◌}
use mathlib.Core.Bool.{true, false, true≢false}
use mathlib.Core.List.{List}
use mathlib.Core.Logic.{⊎_elim}
use mathlib.Core.Path.{◌≡◌, refl, sym, ap}
use native.Mathlib.Nat.{eq-or-lt_of_le, le_of_suc-le-suc}
use native.Mathlib.Omega.{arith}
use denote.Floats.{is_true}
use lib.ListN.{length, get_or}
use borrow.Author.Tests.{eq-eqb}
use Rattle.map_tiles.specs.Map.{is_map, tile_in, solid, count}
use Rattle.map_tiles.specs.declared.point.Tile.{Tile}
use Rattle.map_tiles.specs.declared.point.Tile.TheVariants.{Open, Normal, Deadly, Unhookable}
use Rattle.map_tiles.specs.declared.tiles.Sides.{Sides}
use Rattle.map_tiles.proofs.Maps.{is_map_lem}
use Rattle.map_totals.specs.Area.{count_of, solid_at, sum, solid_row, solid_in, totals_of, entry_at, count_in}
use Rattle.map_totals.specs.Calls.{is_totals, is_area, build_in, area_in}
use Rattle.map_totals.specs.Laws.{CountsSolid, ClearArea}
use Rattle.map_totals.proofs.Sums.{solid_none, solid_small, solid_four}
use Rattle.map_totals.proofs.Tables.{length-by_tile, at-by_tile}
use Rattle.map_totals.proofs.Areas.{is_area_lem}

module _ (s : Sides) (ts : List ℕ) where
  pub length_totals : length (totals_of s ts) ≡ s.width * s.height
  unfolding totals_of
  length_totals = length-by_tile s (λ column row. solid_in s ts 0 0 (suc column) (suc row))

  pub are_totals : is_totals s (totals_of s ts) ≡ true
  unfolding is_totals
  are_totals = eq-eqb (length (totals_of s ts)) (s.width * s.height) length_totals

  pub at_totals : (column row : ℕ) → column < s.width → row < s.height → get_or (totals_of s ts) (row * s.width + column) 0 ≡ solid_in s ts 0 0 (suc column) (suc row)
  unfolding totals_of
  at_totals = at-by_tile s (λ column row. solid_in s ts 0 0 (suc column) (suc row))

  -- an entry is what is solid from the map's corner on
  pub entry_totals : (columns rows : ℕ) → columns ≤ s.width → rows ≤ s.height → entry_at s (totals_of s ts) columns rows ≡ solid_in s ts 0 0 columns rows
  unfolding entry_at solid_in sum
  entry_totals zero rows c r = sym (solid_none s ts rows)
  entry_totals (suc column) zero c r = refl
  entry_totals (suc column) (suc row) c r = at_totals column row c r

  count_totals : (left top columns rows : ℕ) → s.width ≤ 1024 → s.height ≤ 1024 → left + columns ≤ s.width → top + rows ≤ s.height → count_in s (totals_of s ts) left top columns rows ≡ solid_in s ts left top columns rows
  unfolding count_in
  count_totals left top columns rows w h c r =
      let all = entry_totals (left + columns) (top + rows) c r in
      let beside = entry_totals left (top + rows) (omega arith) r in
      let above = entry_totals (left + columns) top c (omega arith) in
      let both = entry_totals left top (omega arith) (omega arith) in
      let four = solid_four s ts left top columns rows in
      let inside = solid_small s ts left top columns rows (omega arith) (omega arith) in
      let near = solid_small s ts 0 0 left (top + rows) (omega arith) (omega arith) in
      let over = solid_small s ts 0 0 (left + columns) top (omega arith) (omega arith) in
      omega arith

pub counts-solid : CountsSolid
unfolding build_in area_in
counts-solid s ts t left top columns rows k m l a =
    let map = is_map_lem s ts m in
    let area = is_area_lem s left top columns rows a in
    let p : is_map s ts ≡ true = is_true (is_map s ts) m in
    let q : is_totals s t ≡ true = is_true (is_totals s t) l in
    let e : is_area s left top columns rows ≡ true = is_true (is_area s left top columns rows) a in
    simp (p, q, are_totals s ts, e, count_totals s ts (count left) (count top) (count columns) (count rows) map.narrow map.low area.narrow area.low)

-- ---- a sum is 0 where each of its numbers is

none_each : (f : ℕ → ℕ) (i n : ℕ) → sum f i n ≡ 0 → (k : ℕ) → k < n → f (i + k) ≡ 0
unfolding sum
none_each f i zero e k h = absurd (omega arith)
none_each f i (suc n) e k h = ⊎_elim (λ (q : k ≡ n). let p : f (i + k) ≡ f (i + n) = ap (λ (j : ℕ). f (i + j)) q in omega arith) (λ (q : k < n). none_each f i n (omega arith) k q) (eq-or-lt_of_le (le_of_suc-le-suc h))

each_none : (f : ℕ → ℕ) (i n : ℕ) → ((k : ℕ) → k < n → f (i + k) ≡ 0) → sum f i n ≡ 0
unfolding sum
each_none f i zero e = refl
each_none f i (suc n) e = let p = each_none f i n (λ k h. e k (omega arith)) in omega (arith, e n (omega arith))

-- a tile counts nothing just where it is not solid
counts_none : (x : Tile) → count_of x ≡ 0 → solid x ≡ false
counts_none Open e = refl
counts_none Normal e = absurd (omega arith)
counts_none Deadly e = refl
counts_none Unhookable e = absurd (omega arith)

none_counts : (x : Tile) → solid x ≡ false → count_of x ≡ 0
none_counts Open e = refl
none_counts Normal e = absurd (true≢false e)
none_counts Deadly e = refl
none_counts Unhookable e = absurd (true≢false e)

pub clear_area : ClearArea
unfolding solid_in solid_row solid_at
clear_area s ts left top columns rows =
    let line : ℕ → ℕ → ℕ = λ row column. solid_at s ts column row in (
      λ e i j h g. counts_none (tile_in s ts (left + i) (top + j)) (none_each (line (top + j)) left columns (none_each (solid_row s ts left columns) top rows e j g) i h),
      λ e. each_none (solid_row s ts left columns) top rows (λ j g. each_none (line (top + j)) left columns (λ i h. none_counts (tile_in s ts (left + i) (top + j)) (e i j h g))),
    )
