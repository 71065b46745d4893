-- Laws of sums, and the solid tiles of a rectangle by those of larger ones. Assumes nothing.
use Prim.Native.Nat.{ℕ, zero, suc, ◌+◌, ◌*◌, ◌^◌, ◌≤◌, ◌<◌}
use mathlib.Core.List.{List}
use mathlib.Core.Logic.{⊎_elim, ◌≢◌}
use mathlib.Core.Path.{◌≡◌, refl, sym, ap, ap₂, ◌∙◌}
use native.Mathlib.Nat.{zero-add, add-zero, add-suc, suc-mul, eq-or-lt_of_le, le_of_suc-le-suc, le_trans, mul-le-mul_left, mul-le-mul_right}
use native.Mathlib.Omega.{arith}
use Rattle.map_tiles.specs.Map.{tile_in}
use Rattle.map_tiles.specs.declared.point.Tile.{Tile}
use Rattle.map_tiles.specs.declared.point.Tile.TheVariants.{Open, Normal, Deadly, Unhookable}
use Rattle.map_tiles.specs.declared.tiles.Sides.{Sides}
use Rattle.map_totals.specs.Area.{count_of, solid_at, sum, solid_row, solid_in}

-- ---- sums

-- in two parts
pub sum-parts : (f : ℕ → ℕ) (i m n : ℕ) → sum f i (m + n) ≡ sum f i m + sum f (i + m) n
unfolding sum
sum-parts f i m zero = ap (sum f i) (add-zero m) ∙ sym (add-zero (sum f i m))
sum-parts f i m (suc n) =
    let p = sum-parts f i m n in
    let q : f (i + (m + n)) ≡ f (i + m + n) = ap f (omega arith) in
    ap (sum f i) (add-suc m n) ∙ omega arith

-- of sums
pub sum_plus : (f g h : ℕ → ℕ) → ((k : ℕ) → f k ≡ g k + h k) → (i n : ℕ) → sum f i n ≡ sum g i n + sum h i n
unfolding sum
sum_plus f g h e i zero = refl
sum_plus f g h e i (suc n) = let p = sum_plus f g h e i n in omega (arith, e (i + n))

-- of the same numbers
pub sum_same : (f g : ℕ → ℕ) (i n : ℕ) → ((k : ℕ) → i ≤ k → k < i + n → f k ≡ g k) → sum f i n ≡ sum g i n
unfolding sum
sum_same f g i zero e = refl
sum_same f g i (suc n) e = ap₂ (λ (a b : ℕ). a + b) (sum_same f g i n (λ k l h. e k l (omega arith))) (e (i + n) (omega arith) (omega arith))

-- of small numbers
pub sum_le : (f : ℕ → ℕ) (b : ℕ) → ((k : ℕ) → f k ≤ b) → (i n : ℕ) → sum f i n ≤ n * b
unfolding sum
sum_le f b h i zero = omega arith
sum_le f b h i (suc n) = let p = sum_le f b h i n in omega (arith, h (i + n), suc-mul n b)

-- of none
pub sum_none : (f : ℕ → ℕ) → ((k : ℕ) → f k ≡ 0) → (i n : ℕ) → sum f i n ≡ 0
unfolding sum
sum_none f e i zero = refl
sum_none f e i (suc n) = let p = sum_none f e i n in omega (arith, e (i + n))

-- of numbers that differ at one place alone
pub sum_but_one : (f g : ℕ → ℕ) (p n : ℕ) → p < n → ((k : ℕ) → k < n → k ≢ p → f k ≡ g k) → sum f 0 n + g p ≡ sum g 0 n + f p
unfolding sum
sum_but_one f g p zero h e = absurd (omega arith)
sum_but_one f g p (suc n) h e =
    ⊎_elim
    (λ (q : p ≡ n).
    let a = sum_same f g 0 n (λ k l b. e k (omega arith) (λ r. omega arith)) in
    let b : f (0 + n) ≡ f p = ap f (zero-add n ∙ sym q) in
    let d : g (0 + n) ≡ g p = ap g (zero-add n ∙ sym q) in
    omega arith)
    (λ (q : p < n).
    let a = sum_but_one f g p n q (λ k b. e k (omega arith)) in
    let b : f (0 + n) ≡ g (0 + n) = e (0 + n) (omega arith) (λ r. omega arith) in
    omega arith)
    (eq-or-lt_of_le (le_of_suc-le-suc h))

-- ---- rectangles

module _ (s : Sides) (ts : List ℕ) where
  pub solid_one : (column row : ℕ) → solid_at s ts column row ≤ 1
  unfolding solid_at
  solid_one column row = one (tile_in s ts column row)
    where
      one : (x : Tile) → count_of x ≤ 1
      one Open = omega arith
      one Normal = omega arith
      one Deadly = omega arith
      one Unhookable = omega arith

  -- at most as many as there are tiles
  solid_most : (left top columns rows : ℕ) → solid_in s ts left top columns rows ≤ rows * columns
  unfolding solid_in solid_row
  solid_most left top columns rows = sum_le (solid_row s ts left columns) columns (λ row. le_of (sum_le (λ column. solid_at s ts column row) 1 (λ column. solid_one column row) left columns)) top rows
    where
      le_of : {a : ℕ} → a ≤ columns * 1 → a ≤ columns
      le_of h = omega arith

  pub solid_small : (left top columns rows : ℕ) → columns ≤ 1024 → rows ≤ 1024 → solid_in s ts left top columns rows ≤ 2 ^ 20
  solid_small left top columns rows c r = le_trans (solid_most left top columns rows) (le_trans (mul-le-mul_right columns r) (mul-le-mul_left 1024 c))

  -- of no columns
  pub solid_none : (rows : ℕ) → solid_in s ts 0 0 0 rows ≡ 0
  unfolding solid_in solid_row sum
  solid_none rows = sum_none (solid_row s ts 0 0) (λ row. refl) 0 rows

  -- a rectangle by four that start at the map's corner
  pub solid_four : (left top columns rows : ℕ) → solid_in s ts 0 0 (left + columns) (top + rows) + solid_in s ts 0 0 left top ≡ solid_in s ts left top columns rows + solid_in s ts 0 0 left (top + rows) + solid_in s ts 0 0 (left + columns) top
  unfolding solid_in solid_row
  solid_four left top columns rows =
      let wide = solid_row s ts 0 (left + columns) in
      let before = solid_row s ts 0 left in
      let inside = solid_row s ts left columns in
      let e : (k : ℕ) → wide k ≡ before k + inside k = λ k. sum-parts (λ column. solid_at s ts column k) 0 left columns ∙ ap (λ (i : ℕ). before k + sum (λ column. solid_at s ts column k) i columns) (zero-add left) in
      let a = sum-parts wide 0 top rows ∙ ap (λ (i : ℕ). sum wide 0 top + sum wide i rows) (zero-add top) in
      let b = sum-parts before 0 top rows ∙ ap (λ (i : ℕ). sum before 0 top + sum before i rows) (zero-add top) in
      let d = sum_plus wide before inside e top rows in
      omega arith
