-- Laws of a list that has an entry for each tile. Assumes nothing.
use Prim.Native.Nat.{ℕ, zero, suc, ◌+◌, ◌-◌, ◌*◌, ◌/◌, ◌%◌, ◌≤◌, ◌<◌}
use mathlib.Core.List.{List, [], ◌∷◌, ◌++◌}
use mathlib.Core.Logic.{◌⊎◌, ⊎_elim, ◌≢◌}
use mathlib.Core.Path.{◌≡◌, refl, sym, ap, ap₂, ◌∙◌}
use native.Mathlib.Nat.{mul_comm, zero-mul, mod-lt, div-add-mod', div-lt_iff_lt-mul, eq-zero-or-pos, eq-or-lt_of_le, le_of_suc-le-suc}
use native.Mathlib.Omega.{arith}
use lib.Arith.{digits_lt, digits_div, digits_mod}
use lib.ListN.{length, get_or, length-append, get_or-append}
use lib.Seq.{get_or_at, ext_get_or}
use Rattle.map_tiles.specs.declared.tiles.Sides.{Sides}
use Rattle.map_totals.specs.Area.{table, by_tile, entry_at}

length-table : (f : ℕ → ℕ) (n : ℕ) → length (table f n) ≡ n
unfolding table
length-table f zero = refl
length-table f (suc n) = let p = length-table f n in omega (arith, length-append (table f n) (f n ∷ []))

at_table : (f : ℕ → ℕ) (n k : ℕ) → k < n → get_or (table f n) k 0 ≡ f k
unfolding table
at_table f zero k h = absurd (omega arith)
at_table f (suc n) k h =
    let l = length-table f n in
    ⊎_elim
    (λ (e : k ≡ n). ap (λ (i : ℕ). get_or (table f n ++ (f n ∷ [])) i 0) e ∙ get_or_at (table f n) (f n) [] 0 n l ∙ ap f (sym e))
    (λ (q : k < n). get_or-append (table f n) (f n ∷ []) 0 k (omega arith) ∙ at_table f n k q)
    (eq-or-lt_of_le (le_of_suc-le-suc h))

module _ (s : Sides) where
  -- the place of a tile is one of the map
  pub place_within : (column row : ℕ) → column < s.width → row < s.height → row * s.width + column < s.width * s.height
  place_within column row c r = omega (arith, digits_lt {q = row} {m = s.height} {r = column} {c = s.width} r c, mul_comm s.width s.height)

  pub length-by_tile : (f : ℕ → ℕ → ℕ) → length (by_tile s f) ≡ s.width * s.height
  unfolding by_tile
  length-by_tile f = length-table (λ k. f (k % s.width) (k / s.width)) (s.width * s.height)

  -- the entry of a tile
  pub at-by_tile : (f : ℕ → ℕ → ℕ) (column row : ℕ) → column < s.width → row < s.height → get_or (by_tile s f) (row * s.width + column) 0 ≡ f column row
  unfolding by_tile
  at-by_tile f column row c r =
      at_table (λ k. f (k % s.width) (k / s.width)) (s.width * s.height) (row * s.width + column) (place_within column row c r)
      ∙ ap₂ f (digits_mod row c) (digits_div row c)

  -- two tiles have two places
  pub place_apart : (c r column row : ℕ) → c < s.width → column < s.width → (c ≢ column) ⊎ (r ≢ row) → r * s.width + c ≢ row * s.width + column
  place_apart c r column row h narrow other e =
      let p : c ≡ column = sym (digits_mod r h) ∙ ap (λ (k : ℕ). k % s.width) e ∙ digits_mod row narrow in
      let q : r ≡ row = sym (digits_div r h) ∙ ap (λ (k : ℕ). k / s.width) e ∙ digits_div row narrow in
      ⊎_elim (λ n. n p) (λ n. n q) other

  -- each place is that of a tile
  record Tile (k : ℕ) : Type 0 where
    pub column : ℕ
    pub row : ℕ
    pub narrow : column < s.width
    pub low : row < s.height
    pub place : k ≡ row * s.width + column

  tile_of : (k : ℕ) → k < s.width * s.height → Tile k
  tile_of k h =
      let wide : 0 < s.width = ⊎_elim (λ (e : s.width ≡ 0). let z : s.width * s.height ≡ 0 = ap (λ (w : ℕ). w * s.height) e ∙ zero-mul s.height in absurd (omega arith)) (λ p. p) (eq-zero-or-pos s.width) in
      record { column = k % s.width; row = k / s.width; narrow = mod-lt k wide; low = (div-lt_iff_lt-mul wide).1 (omega (arith, mul_comm s.width s.height)); place = sym (div-add-mod' k s.width) }

  -- a list that has these entries is this one
  pub all-by_tile : (f : ℕ → ℕ → ℕ) (t : List ℕ) → length t ≡ s.width * s.height → ((column row : ℕ) → column < s.width → row < s.height → get_or t (row * s.width + column) 0 ≡ f column row) → t ≡ by_tile s f
  all-by_tile f t l e =
      ext_get_or 0 t (by_tile s f) (l ∙ sym (length-by_tile f))
      (λ i h. let p = tile_of i (omega arith) in
      ap (λ (k : ℕ). get_or t k 0) p.place ∙ e p.column p.row p.narrow p.low ∙ sym (ap (λ (k : ℕ). get_or (by_tile s f) k 0) p.place ∙ at-by_tile f p.column p.row p.narrow p.low))

-- the entry where so many columns and rows end stands at the last one's place
pub entry_within : (s : Sides) (t : List ℕ) (columns rows : ℕ) → columns ≢ 0 → rows ≢ 0 → (columns ≤ s.width) × (rows ≤ s.height) × (length t ≡ s.width * s.height) → (rows - 1) * s.width + (columns - 1) < length t
entry_within s t columns rows c r h = omega (arith, place_within s (columns - 1) (rows - 1) (omega arith) (omega arith))

pub entry_place : (s : Sides) (t : List ℕ) (columns rows : ℕ) → columns ≢ 0 → rows ≢ 0 → get_or t ((rows - 1) * s.width + (columns - 1)) 0 ≡ entry_at s t columns rows
unfolding entry_at
entry_place s t zero rows c r = absurd (c refl)
entry_place s t (suc column) zero c r = absurd (r refl)
entry_place s t (suc column) (suc row) c r = ap₂ (λ (i j : ℕ). get_or t (j * s.width + i) 0) (less column) (less row)
  where
    less : (n : ℕ) → suc n - 1 ≡ n
    less n = omega arith

pub entry_above : (s : Sides) (t : List ℕ) (columns rows : ℕ) → rows ≡ 0 → 0 ≡ entry_at s t columns rows
unfolding entry_at
entry_above s t columns rows e = above columns ∙ ap (entry_at s t columns) (sym e)
  where
    above : (n : ℕ) → 0 ≡ entry_at s t n 0
    above zero = refl
    above (suc column) = refl
