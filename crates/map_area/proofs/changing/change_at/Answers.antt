use Rattle.std.proofs.Common.{◌≡◌, ℕ, ◌+◌, ◌*◌, ◌%◌, ◌^◌, List, set, sym, ap, ◌∙◌, arith, rules}
use Rattle.map_tiles.specs.Map.{is_map}
use Rattle.map_tiles.proofs.Maps.{is_map_lem}
use Rattle.map_totals.specs.Area.{solid_at, minus, written, change_at, changed_totals}
use Rattle.map_totals.specs.Calls.{changed}
use Rattle.map_totals.proofs.Areas.{map_small}
use Rattle.map_totals.proofs.Tables.{place_within}
use Rattle.map_area.proofs.Wraps.{less}
use Rattle.map_area.proofs.changing.change_at.Goals as goal

pub overflow_mul-at : goal.overflow_mul-at
overflow_mul-at c =
    let a = c.args in
    let p = place_within a.sides a.column a.row c.requires.1 c.requires.2 in
    let q = map_small a.sides a.tiles.now c.requires.0 in
    record { fits = omega arith }

pub overflow_add-at : goal.overflow_add-at
overflow_add-at c =
    let a = c.args in
    let p = place_within a.sides a.column a.row c.requires.1 c.requires.2 in
    let q = map_small a.sides a.tiles.now c.requires.0 in
    record { fits = omega arith }

pub overflow_cast-at : goal.overflow_cast-at
overflow_cast-at c =
    let a = c.args in
    let p = place_within a.sides a.column a.row c.requires.1 c.requires.2 in
    let q = map_small a.sides a.tiles.now c.requires.0 in
    record { fits = omega arith }

pub bounds-tiles-at : goal.bounds-tiles-at
bounds-tiles-at c =
    let a = c.args in
    let p = place_within a.sides a.column a.row c.requires.1 c.requires.2 in
    let q = map_small a.sides a.tiles.now c.requires.0 in
    omega (arith, (is_map_lem a.sides a.tiles.now c.requires.0).bytes)

pub solid_at-after-requires : goal.solid_at-after-requires
unfolding is_map
solid_at-after-requires c = search rules

pub returns : goal.returns
unfolding changed written change_at
returns c =
    let a = c.args in
    let after : List ℕ = set a.tiles.now (a.row * a.sides.width + a.column) a.byte in
    let b = c.solid_at-before in
    let d = c.solid_at-after in
    let n = c.wrapping_sub_u32 in
    let e : n.result ≡ (solid_at a.sides after a.column a.row + minus (solid_at a.sides a.tiles.now a.column a.row)) % 2 ^ 32 = less d.result b.result n.result (omega arith) (omega arith) (omega arith) n.ensures.value ∙ simp (← d.ensures, ← b.ensures) in
    ap (λ (t : List ℕ). record { number = 0; tiles = after; totals = t }) (sym (c.add_from.ensures ∙ ap (changed_totals a.sides a.totals.now a.column a.row) e))
