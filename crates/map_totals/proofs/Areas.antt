-- What an area, and totals of the right length, say. Assumes nothing.
use Prim.Native.Nat.{ℕ, ◌+◌, ◌*◌, ◌^◌, ◌≤◌}
use mathlib.Core.Bool.{true, false}
use mathlib.Core.List.{List}
use mathlib.Core.Logic.{◌≢◌}
use mathlib.Core.Path.{◌≡◌, sym, ◌∙◌}
use native.Mathlib.Nat.{le_trans, mul-le-mul_left, mul-le-mul_right}
use denote.Floats.{passes}
use borrow.Author.Tests.{eq-eqb, ne_eqb}
use lib.Dec.{T, leb, leb→le, eqb→eq}
use lib.Ieee.Fits.{and_l, and_r}
use lib.IntN.{ℤ, pos, negsuc}
use lib.ListN.{length}
use Rattle.map_tiles.specs.Map.{is_map, count}
use Rattle.map_tiles.specs.declared.tiles.Sides.{Sides}
use Rattle.map_tiles.proofs.Maps.{is_map_lem}
use Rattle.map_totals.specs.Calls.{is_span, is_area, is_totals}

pub is_span_lem : (from n : ℤ) (side : ℕ) → T (is_span from n side) → (1 ≤ count n) × (count from + count n ≤ side)
unfolding is_span
is_span_lem (pos from) (pos n) side t = (leb→le 1 n (and_l (leb 1 n) (leb (from + n) side) t), leb→le (from + n) side (and_r (leb 1 n) (leb (from + n) side) t))
is_span_lem (pos from) (negsuc n) side t = absurd t
is_span_lem (negsuc from) n side t = absurd t

pub record IsArea (s : Sides) (left top columns rows : ℤ) : Type 0 where
  pub wide : 1 ≤ count columns
  pub narrow : count left + count columns ≤ s.width
  pub high : 1 ≤ count rows
  pub low : count top + count rows ≤ s.height

pub is_area_lem : (s : Sides) (left top columns rows : ℤ) → T (is_area s left top columns rows) → IsArea s left top columns rows
unfolding is_area
is_area_lem s left top columns rows t =
    let across = is_span_lem left columns s.width (and_l (is_span left columns s.width) (is_span top rows s.height) t) in
    let down = is_span_lem top rows s.height (and_r (is_span left columns s.width) (is_span top rows s.height) t) in
    record { wide = across.0; narrow = across.1; high = down.0; low = down.1 }

pub is_totals_lem : (s : Sides) (t : List ℕ) → T (is_totals s t) → length t ≡ s.width * s.height
unfolding is_totals
is_totals_lem s t h = eqb→eq (length t) (s.width * s.height) h

-- a map has at most 2 ^ 20 tiles
pub map_small : (s : Sides) (ts : List ℕ) → T (is_map s ts) → s.width * s.height ≤ 2 ^ 20
map_small s ts m = let map = is_map_lem s ts m in le_trans (mul-le-mul_right s.height map.narrow) (mul-le-mul_left 1024 map.low)

-- ---- as the code asks

module _ (s : Sides) (ts t : List ℕ) (m : is_map s ts ≡ true) where
  pub totals_right : length t ≡ length ts → is_totals s t ≡ true
  unfolding is_totals
  totals_right e = eq-eqb (length t) (s.width * s.height) (e ∙ (is_map_lem s ts (passes (is_map s ts) m)).bytes)

  pub totals_wrong : length t ≢ length ts → is_totals s t ≡ false
  unfolding is_totals
  totals_wrong n = ne_eqb (length t) (s.width * s.height) (λ e. n (e ∙ sym (is_map_lem s ts (passes (is_map s ts) m)).bytes))
