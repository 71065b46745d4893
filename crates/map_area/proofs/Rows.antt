-- One row of totals after another: what is written at a place, and what stands there then. Assumes nothing.
use Rattle.std.proofs.Common.{◌≡◌, ℕ, zero, suc, ◌+◌, ◌*◌, ◌^◌, ◌<◌, ◌≤◌, T, List, [], ◌∷◌, ◌++◌, length, get_or, take, set, sym, refl, ap, ◌∙◌, ap₂, suc-mul, zero-add, add-one, arith, get_or-take, take-suc, take-suc-set}
use Rattle.map_tiles.specs.Map.{is_map}
use Rattle.map_tiles.specs.declared.tiles.Sides.{Sides}
use Rattle.map_tiles.proofs.Maps.{is_map_lem}
use Rattle.map_totals.specs.Area.{solid_at, sum, solid_row, solid_in, totals_of, entry_at}
use Rattle.map_totals.proofs.Sums.{sum_le, solid_one, solid_small}
use Rattle.map_totals.proofs.Tables.{place_within}
use Rattle.map_totals.proofs.Counts.{length_totals, at_totals}

module _ (s : Sides) (ts : List ℕ) where
  -- t has the totals of the first k tiles
  abbrev pub Upto : ℕ → List ℕ → Type 0
  Upto k t = (length t ≡ s.width * s.height) × (take k t ≡ take k (totals_of s ts))

  -- the running sum of a row
  pub row_first : (row : ℕ) → 0 ≡ solid_row s ts 0 0 row
  unfolding solid_row sum
  row_first row = refl

  pub row_next : (column row : ℕ) → solid_row s ts 0 column row + solid_at s ts column row ≡ solid_row s ts 0 (column + 1) row
  unfolding solid_row sum
  row_next column row = sym (ap (λ (n : ℕ). solid_row s ts 0 n row) (add-one column) ∙ ap (λ (n : ℕ). solid_row s ts 0 column row + solid_at s ts n row) (zero-add column))

  pub row_most : (n row : ℕ) → solid_row s ts 0 n row ≤ n
  unfolding solid_row
  row_most n row = let h = sum_le (λ column. solid_at s ts column row) 1 (λ column. solid_one s ts column row) 0 n in omega arith

  -- the entry above
  above : (t : List ℕ) (column row : ℕ) → column < s.width → row ≤ s.height → Upto (row * s.width + column) t → entry_at s t (suc column) row ≡ solid_in s ts 0 0 (suc column) row
  unfolding entry_at solid_in sum
  above t column zero c r u = refl
  above t column (suc row) c r u =
      let k : ℕ = suc row * s.width + column in
      let i : ℕ = row * s.width + column in
      let h : i < k = omega (arith, suc-mul row s.width) in
      sym (get_or-take k t i 0 h) ∙ ap (λ (l : List ℕ). get_or l i 0) u.1 ∙ get_or-take k (totals_of s ts) i 0 h ∙ at_totals s ts column row c r

  module _ (m : T (is_map s ts)) (t : List ℕ) (column row : ℕ) (c : column < s.width) (r : row < s.height) (u : Upto (row * s.width + column) t) where
    -- a tile's total is the row's running sum and the entry above
    pub total-is : solid_row s ts 0 (column + 1) row + entry_at s t (suc column) row ≡ solid_in s ts 0 0 (suc column) (suc row)
    unfolding solid_in sum
    total-is =
        let a = above t column row c (omega arith) u in
        let b : solid_row s ts 0 (column + 1) row ≡ solid_row s ts 0 (suc column) (0 + row) = ap₂ (λ (n k : ℕ). solid_row s ts 0 n k) (add-one column) (sym (zero-add row)) in
        omega arith

    pub total-small : solid_row s ts 0 (column + 1) row + entry_at s t (suc column) row ≤ 2 ^ 20
    total-small = let map = is_map_lem s ts m in omega (arith, total-is, solid_small s ts 0 0 (suc column) (suc row) (omega arith) (omega arith))

    pub total-next : (v : ℕ) → v ≡ solid_row s ts 0 (column + 1) row + entry_at s t (suc column) row → take (row * s.width + (column + 1)) (set t (row * s.width + column) v) ≡ take (row * s.width + (column + 1)) (totals_of s ts)
    total-next v e =
        let k : ℕ = row * s.width + column in
        let h = place_within s column row c r in
        let n : row * s.width + (column + 1) ≡ suc k = omega arith in
        let l = length_totals s ts in
        ap (λ (i : ℕ). take i (set t k v)) n
        ∙ take-suc-set t k v (omega arith)
        ∙ ap₂ (λ (l : List ℕ) (x : ℕ). l ++ (x ∷ [])) u.1 (e ∙ total-is ∙ sym (at_totals s ts column row c r))
        ∙ sym (ap (λ (i : ℕ). take i (totals_of s ts)) n ∙ take-suc (totals_of s ts) k 0 (omega arith))
