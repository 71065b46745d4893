use mathlib.Core.Path.{◌≡◌, sym, ◌∙◌}
use Prim.Native.Nat.{ℕ, suc, ◌+◌, ◌-◌, ◌*◌, ◌≤◌, ◌<◌}
use native.Mathlib.Nat.{le_trans, le_of_eq, lt_of_lt_of_le, lt_of_le_of_lt, le_of_lt, mul_comm, suc-mul, mul-le-mul_left, mul-le-mul_right}
use native.Mathlib.Omega.{arith}
use borrow.Author.Tests.{eq-eqb, ne_eqb}
use lib.Dec.{lit<, lit≤}
use Rattle.map_tiles.specs.Map.{tile_in}
use Rattle.map_tiles.proofs.Maps.{IsMap, is_map_lem}
use mathlib.Core.List.{List}
use lib.Dec.{T}
use Rattle.map_tiles.specs.Map.{is_map}
use Rattle.map_tiles.specs.declared.tiles.Sides.{Sides}
use Rattle.map_tiles.proofs.point.tile_in.Goals as goal

-- a place in the map: row * width + column
within : (r w k h : ℕ) → r < h → k < w → suc r * w ≤ h * w → r * w + k < h * w
within r w k h a b c = let e : suc r * w ≡ r * w + w = suc-mul r w in omega arith

module _ (s : Sides) (ts : List ℕ) (row column : ℕ) (r : T (is_map s ts) × (column < s.width) × (row < s.height)) where
  facts : IsMap s ts
  facts = is_map_lem s ts r.0

  place : row * s.width + column < s.height * s.width
  place = within row s.width column s.height r.2 r.1 (mul-le-mul_right s.width r.2)

  area : s.height * s.width ≤ 1024 * 1024
  area = le_trans (mul-le-mul_right s.width facts.low) (mul-le-mul_left 1024 facts.narrow)

  room : row * s.width ≤ 1024 * 1024
  room = le_trans (mul-le-mul_right s.width (le_of_lt r.2)) area

pub overflow_mul-at : goal.overflow_mul-at
overflow_mul-at c = record { fits = lt_of_le_of_lt (room _ _ _ _ c.requires) (lit< tt) }

pub overflow_add-at : goal.overflow_add-at
overflow_add-at c = record { fits = lt_of_lt_of_le (place _ _ _ _ c.requires) (le_trans (area _ _ _ _ c.requires) (lit≤ tt)) }

pub overflow_cast-at : goal.overflow_cast-at
overflow_cast-at c = record { fits = lt_of_lt_of_le (place _ _ _ _ c.requires) (le_trans (area _ _ _ _ c.requires) (lit≤ tt)) }

pub bounds-tiles-at : goal.bounds-tiles-at
bounds-tiles-at c = let s = c.args.sides in lt_of_lt_of_le (place s c.args.tiles.now c.args.row c.args.column c.requires) (le_of_eq (sym ((facts s c.args.tiles.now c.args.row c.args.column c.requires).bytes ∙ mul_comm s.width s.height)))

pub returns-in-1 : goal.returns-in-1
unfolding tile_in
returns-in-1 c = simp (eq-eqb _ _ c.in-1.is)

pub returns-in-2 : goal.returns-in-2
unfolding tile_in
returns-in-2 c = simp c.in-2.is

pub returns-in-3 : goal.returns-in-3
unfolding tile_in
returns-in-3 c = simp c.in-3.is

pub returns-in_default : goal.returns-in_default
unfolding tile_in
returns-in_default c = simp (ne_eqb _ _ c.in_default.in_default-own.rest.0.0.1, ne_eqb _ _ c.in_default.in_default-own.rest.0.1, ne_eqb _ _ c.in_default.in_default-own.rest.1)
