use Rattle.std.proofs.Common.{◌≡◌, ℕ, suc, ◌+◌, ◌*◌, sym, ap, ◌∙◌, ap₂, suc-mul, add-one, arith, length-set}
use Rattle.map_totals.specs.Area.{solid_row, entry_at}
use Rattle.map_tiles.proofs.Maps.{is_map_lem}
use Rattle.map_totals.proofs.Tables.{place_within}
use Rattle.map_totals.proofs.Areas.{map_small}
use Rattle.map_area.proofs.Rows.{row_first, row_next, row_most, total-small, total-next}
use Rattle.map_area.proofs.building.total_row.Goals as goal

pub overflow_mul-start : goal.overflow_mul-start
overflow_mul-start c =
    let a = c.args in
    let p = place_within a.sides (0) a.row (is_map_lem a.sides a.tiles.now c.requires.0).wide c.requires.1 in
    let q = map_small a.sides a.tiles.now c.requires.0 in
    record { fits = omega arith }

pub overflow_cast-start : goal.overflow_cast-start
overflow_cast-start c =
    let a = c.args in
    let p = place_within a.sides (0) a.row (is_map_lem a.sides a.tiles.now c.requires.0).wide c.requires.1 in
    let q = map_small a.sides a.tiles.now c.requires.0 in
    record { fits = omega arith }

pub loop-column-init : goal.loop-column-init
loop-column-init c =
    let a = c.args in
    let n : a.row * a.sides.width + 0 ≡ a.row * a.sides.width = omega arith in
    (omega arith, row_first a.sides a.tiles.now a.row, (c.requires.2, rw n c.requires.3))

pub overflow_add-at : goal.overflow_add-at
overflow_add-at c =
    let a = c.args in
    let p = place_within a.sides c.loop-column.column a.row c.loop-column-test.true c.requires.1 in
    let q = map_small a.sides a.tiles.now c.requires.0 in
    record { fits = omega arith }

pub solid_at-run-requires : goal.solid_at-run-requires
solid_at-run-requires c = (c.requires.0, c.loop-column-test.true, c.requires.1)

pub overflow_add-run : goal.overflow_add-run
overflow_add-run c =
    let a = c.args in
    let l = c.loop-column in
    let map = is_map_lem a.sides a.tiles.now c.requires.0 in
    let n = row_next a.sides a.tiles.now l.column a.row in
    let m = row_most a.sides a.tiles.now (l.column + 1) a.row in
    record { fits = omega (arith, c.solid_at-run.ensures, l.invariant.1, c.loop-column-test.true) }

pub entry_at-requires : goal.entry_at-requires
entry_at-requires c = (omega arith, omega arith, c.loop-column.invariant.2.0)

pub overflow_add-totals : goal.overflow_add-totals
overflow_add-totals c =
    let a = c.args in
    let l = c.loop-column in
    let t = c.loop-column-test.true in
    let run : l.run + c.solid_at-run.result ≡ solid_row a.sides a.tiles.now 0 (l.column + 1) a.row = omega (arith, l.invariant.1, c.solid_at-run.ensures, row_next a.sides a.tiles.now l.column a.row) in
    let over : c.entry_at.result ≡ entry_at a.sides l.totals (suc l.column) a.row = c.entry_at.ensures ∙ ap (λ (n : ℕ). entry_at a.sides l.totals n a.row) (add-one l.column) in
    record { fits = omega (arith, total-small a.sides a.tiles.now c.requires.0 l.totals l.column a.row t c.requires.1 l.invariant.2) }

pub offset_bounds-totals-at : goal.offset_bounds-totals-at
offset_bounds-totals-at c =
    let a = c.args in
    let p = place_within a.sides c.loop-column.column a.row c.loop-column-test.true c.requires.1 in
    let q = map_small a.sides a.tiles.now c.requires.0 in
    record { fits = omega arith }

pub bounds-totals-at : goal.bounds-totals-at
bounds-totals-at c =
    let a = c.args in
    let p = place_within a.sides c.loop-column.column a.row c.loop-column-test.true c.requires.1 in
    let q = map_small a.sides a.tiles.now c.requires.0 in
    omega (arith, c.loop-column.invariant.2.0)

pub loop-column-preserved : goal.loop-column-preserved
loop-column-preserved c =
    let a = c.args in
    let l = c.loop-column in
    let t = c.loop-column-test.true in
    let run : l.run + c.solid_at-run.result ≡ solid_row a.sides a.tiles.now 0 (l.column + 1) a.row = omega (arith, l.invariant.1, c.solid_at-run.ensures, row_next a.sides a.tiles.now l.column a.row) in
    let over : c.entry_at.result ≡ entry_at a.sides l.totals (suc l.column) a.row = c.entry_at.ensures ∙ ap (λ (n : ℕ). entry_at a.sides l.totals n a.row) (add-one l.column) in
    (omega arith, run, (length-set l.totals (a.row * a.sides.width + l.column) _ ∙ l.invariant.2.0, total-next a.sides a.tiles.now c.requires.0 l.totals l.column a.row t c.requires.1 l.invariant.2 _ (ap₂ (λ (x y : ℕ). x + y) run over)))

pub shape_of-totals : goal.shape_of-totals
shape_of-totals c = c.loop-column.invariant.2.0 ∙ sym c.requires.2

pub returns : goal.returns
returns c =
    let a = c.args in
    let l = c.loop-column in
    let n : suc a.row * a.sides.width ≡ a.row * a.sides.width + l.column = omega (arith, suc-mul a.row a.sides.width) in
    rw n l.invariant.2.1
