-- A change writes one byte; totals that were right for the map before are then those built afresh, and whatever they held, no other entry is touched. Assumes nothing.
use Prim.Native.Nat.{ℕ, suc, ◌+◌, ◌*◌, ◌≤◌, ◌<◌}
use mathlib.Core.Bool.{Bool, true, false, cond, ◌&&◌}
use mathlib.Core.List.{List}
use mathlib.Core.Logic.{◌⊎◌, inl, inr, ⊎_elim, ◌≢◌}
use mathlib.Core.Path.{◌≡◌, refl, sym, ap, ap₂, ◌∙◌}
use native.Mathlib.Decide.{dec_le}
use native.Mathlib.Nat.{lt_of_not-le}
use native.Mathlib.Omega.{arith}
use denote.Floats.{is_true}
use lib.Dec.{T, leb}
use lib.IntN.{ℤ, pos}
use lib.ListN.{length, get_or, set, length-set}
use lib.Seq.{get_or-set_same, get_or-set_other}
use borrow.Author.Tests.{le-leb, lt-leb}
use Rattle.map_tiles.specs.Map.{is_map, tile_in, count}
use Rattle.map_tiles.specs.declared.tiles.Sides.{Sides}
use Rattle.map_tiles.proofs.Maps.{is_map_lem}
use Rattle.map_totals.specs.Area.{solid_at, solid_row, solid_in, totals_of, entry_at, written, change_at, added, reached, changed_totals}
use Rattle.map_totals.specs.Calls.{is_totals, is_area, LeftChange, changed, change_in}
use Rattle.map_totals.specs.Laws.{ChangeWrites, ChangeFollows, ChangeReaches}
use Rattle.map_totals.proofs.Sums.{sum_same, sum_but_one, solid_one, solid_small}
use Rattle.map_totals.proofs.Tables.{place_within, place_apart, length-by_tile, at-by_tile, all-by_tile}
use Rattle.map_totals.proofs.Areas.{is_area_lem}
use Rattle.map_totals.proofs.Counts.{are_totals, at_totals}

-- ---- what is solid in the changed map

module _ (s : Sides) (ts : List ℕ) (column row byte : ℕ) (narrow : column < s.width) where
  abbrev after : List ℕ
  after = written s ts column row byte

  -- no other tile is changed
  else_solid : (c r : ℕ) → c < s.width → (c ≢ column) ⊎ (r ≢ row) → solid_at s after c r ≡ solid_at s ts c r
  unfolding written solid_at tile_in
  else_solid c r h other = rw (get_or-set_other ts (row * s.width + column) (r * s.width + c) byte 0 (place_apart s c r column row h narrow other)) refl

  else_row : (columns r : ℕ) → columns ≤ s.width → (columns ≤ column) ⊎ (r ≢ row) → solid_row s after 0 columns r ≡ solid_row s ts 0 columns r
  unfolding solid_row
  else_row columns r h other = sum_same (λ c. solid_at s after c r) (λ c. solid_at s ts c r) 0 columns (λ c l b. else_solid c r (omega arith) (⊎_elim (λ q. inl (λ e. omega arith)) inr other))

  -- a rectangle that the tile is not in
  solid_else : (columns rows : ℕ) → columns ≤ s.width → (columns ≤ column) ⊎ (rows ≤ row) → solid_in s after 0 0 columns rows ≡ solid_in s ts 0 0 columns rows
  unfolding solid_in
  solid_else columns rows h other = sum_same (solid_row s after 0 columns) (solid_row s ts 0 columns) 0 rows (λ r l b. else_row columns r h (⊎_elim inl (λ q. inr (λ e. omega arith)) other))

  row_changed : (columns : ℕ) → columns ≤ s.width → column < columns → solid_row s after 0 columns row + solid_at s ts column row ≡ solid_row s ts 0 columns row + solid_at s after column row
  unfolding solid_row
  row_changed columns h c = sum_but_one (λ c. solid_at s after c row) (λ c. solid_at s ts c row) column columns c (λ k b n. else_solid k row (omega arith) (inl n))

  -- one that it is in
  solid-changed : (columns rows : ℕ) → columns ≤ s.width → column < columns → row < rows → solid_in s after 0 0 columns rows + solid_at s ts column row ≡ solid_in s ts 0 0 columns rows + solid_at s after column row
  unfolding solid_in
  solid-changed columns rows h c r =
      let a = row_changed columns h c in
      let b = sum_but_one (solid_row s after 0 columns) (solid_row s ts 0 columns) row rows r (λ k b n. else_row columns k h (inr n)) in
      omega arith

-- ---- the entries

module _ (s : Sides) (t : List ℕ) (column row n : ℕ) where
  at-changed : (c r : ℕ) → c < s.width → r < s.height → get_or (changed_totals s t column row n) (r * s.width + c) 0 ≡ reached column row n c r (get_or t (r * s.width + c) 0)
  unfolding changed_totals
  at-changed = at-by_tile s (λ c r. reached column row n c r (get_or t (r * s.width + c) 0))

  pub entry_in_lem : (c r : ℕ) → c < s.width → r < s.height → column ≤ c → row ≤ r → get_or (changed_totals s t column row n) (r * s.width + c) 0 ≡ added n (get_or t (r * s.width + c) 0)
  entry_in_lem c r w h p q = at-changed c r w h ∙ simp (le-leb column c p, le-leb row r q)

  pub entry_else : (c r : ℕ) → c < s.width → r < s.height → (c < column) ⊎ (r < row) → get_or (changed_totals s t column row n) (r * s.width + c) 0 ≡ get_or t (r * s.width + c) 0
  entry_else c r w h other = at-changed c r w h ∙ ⊎_elim (λ (p : c < column). simp (lt-leb column c p)) (λ (q : r < row). apart (leb column c) (leb row r) (lt-leb row r q)) other
    where
      apart : (a b : Bool) → b ≡ false → cond (a && b) (added n (get_or t (r * s.width + c) 0)) (get_or t (r * s.width + c) 0) ≡ get_or t (r * s.width + c) 0
      apart true b e = simp e
      apart false b e = refl

  pub length-changed : length (changed_totals s t column row n) ≡ s.width * s.height
  unfolding changed_totals
  length-changed = length-by_tile s (λ c r. reached column row n c r (get_or t (r * s.width + c) 0))

-- each tile is one whose entry the change reaches, or not
split : (column row c r : ℕ) → ((column ≤ c) × (row ≤ r)) ⊎ ((c < column) ⊎ (r < row))
split column row c r = elim (dec_le column c) [ yes p ↦ elim (dec_le row r) [ yes q ↦ inl (p, q) | no q ↦ inr (inr (lt_of_not-le q)) ] | no p ↦ inr (inl (lt_of_not-le p)) ]

module _ (s : Sides) (ts : List ℕ) (column row byte : ℕ) (narrow : column < s.width) (m : T (is_map s ts)) where
  gets : (c r : ℕ) → c < s.width → r < s.height → column ≤ c → row ≤ r → let after = written s ts column row byte in added (change_at s ts after column row) (get_or (totals_of s ts) (r * s.width + c) 0) ≡ solid_in s after 0 0 (suc c) (suc r)
  unfolding change_at
  gets c r w h p q =
      let after = written s ts column row byte in
      let map = is_map_lem s ts m in
      let e = at_totals s ts c r w h in
      let d = solid-changed s ts column row byte narrow (suc c) (suc r) w (omega arith) (omega arith) in
      let small = solid_small s after 0 0 (suc c) (suc r) (omega arith) (omega arith) in
      let one = solid_one s ts column row in
      let other = solid_one s after column row in
      rw e (omega arith)

  afresh : let after = written s ts column row byte in changed_totals s (totals_of s ts) column row (change_at s ts after column row) ≡ totals_of s after
  unfolding totals_of
  afresh =
      let after = written s ts column row byte in
      let n = change_at s ts after column row in
      all-by_tile s (λ c r. solid_in s after 0 0 (suc c) (suc r)) (changed_totals s (totals_of s ts) column row n) (length-changed s (totals_of s ts) column row n)
      (λ c r w h. ⊎_elim
      (λ q. entry_in_lem s (totals_of s ts) column row n c r w h q.0 q.1 ∙ gets c r w h q.0 q.1)
      (λ q. entry_else s (totals_of s ts) column row n c r w h q ∙ at_totals s ts c r w h ∙ sym (solid_else s ts column row byte narrow (suc c) (suc r) w q))
      (split column row c r))

-- ---- the call

module _ (s : Sides) (ts t : List ℕ) (column row : ℤ) (byte : ℕ) (m : T (is_map s ts)) (l : is_totals s t ≡ true) (a : T (is_area s column row (pos 1) (pos 1))) where
  pub taken : change_in s ts t column row byte ≡ changed s ts t (count column) (count row) byte
  unfolding change_in
  taken = simp (is_true (is_map s ts) m, l, is_true (is_area s column row (pos 1) (pos 1)) a)

pub change_writes : ChangeWrites
unfolding changed written
change_writes s ts t column row byte c r m l a w h =
    let map = is_map_lem s ts m in
    let area = is_area_lem s column row (pos 1) (pos 1) a in
    let narrow : count column < s.width = omega (arith, area.narrow) in
    let low : count row < s.height = omega (arith, area.low) in
    let place = place_within s (count column) (count row) narrow low in
    let e = ap (λ (x : LeftChange). x.tiles) (taken s ts t column row byte m (is_true (is_totals s t) l) a) in
    let at = ap (λ (x : List ℕ). get_or x (r * s.width + c) 0) e in (
      ap length e ∙ length-set ts (count row * s.width + count column) byte,
      λ q. at ∙ ap₂ (λ (x y : ℕ). get_or (set ts (count row * s.width + count column) byte) (y * s.width + x) 0) q.0 q.1 ∙ get_or-set_same ts (count row * s.width + count column) byte 0 (omega (arith, map.bytes)),
      λ q. at ∙ get_or-set_other ts (count row * s.width + count column) (r * s.width + c) byte 0 (place_apart s c r (count column) (count row) w narrow q),
    )

pub change_follows : ChangeFollows
unfolding changed
change_follows s ts column row byte m a =
    let c : count column < s.width = let h = (is_area_lem s column row (pos 1) (pos 1) a).narrow in omega arith in
    taken s ts (totals_of s ts) column row byte m (are_totals s ts) a
    ∙ ap (λ (t : List ℕ). record { number = 0; tiles = written s ts (count column) (count row) byte; totals = t }) (afresh s ts (count column) (count row) byte c m)

pub change_reaches : ChangeReaches
unfolding entry_at changed
change_reaches s ts t column row byte c r m l a w h =
    let n = change_at s ts (written s ts (count column) (count row) byte) (count column) (count row) in
    let e = ap (λ (x : LeftChange). get_or x.totals (r * s.width + c) 0) (taken s ts t column row byte m (is_true (is_totals s t) l) a) in
    (λ q. e ∙ entry_in_lem s t (count column) (count row) n c r w h q.0 q.1, λ q. e ∙ entry_else s t (count column) (count row) n c r w h q)
