use Rattle.std.proofs.Common.{◌≡◌, ℕ, ◌*◌, sym, refl, ap, ◌∙◌, mul_comm, zero-mul, add-one, arith, take_all}
use Rattle.map_totals.specs.Area.{totals_of}
use Rattle.map_totals.proofs.Counts.{length_totals}
use Rattle.map_area.proofs.building.total_rows.Goals as goal

pub loop-row-init : goal.loop-row-init
loop-row-init c =
    let a = c.args in
    (omega arith, refl, (c.requires.1, rw (zero-mul a.sides.width) refl))

pub total_row-requires : goal.total_row-requires
total_row-requires c = (c.requires.0, c.loop-row-test.true, c.loop-row.invariant.2.0, c.loop-row.invariant.2.1)

pub loop-row-preserved : goal.loop-row-preserved
loop-row-preserved c =
    let a = c.args in
    let l = c.loop-row in
    let t = c.total_row in
    (omega arith, refl, (t.auto.totals ∙ l.invariant.2.0, rw (add-one l.row) t.ensures))

pub shape_of-totals : goal.shape_of-totals
shape_of-totals c = c.loop-row.invariant.2.0 ∙ sym c.requires.1

pub returns : goal.returns
returns c =
    let a = c.args in
    let l = c.loop-row in
    let h : l.row ≡ a.sides.height = omega arith in
    let n : l.row * a.sides.width ≡ a.sides.width * a.sides.height = ap (λ (r : ℕ). r * a.sides.width) h ∙ mul_comm a.sides.height a.sides.width in
    sym (take_all (l.row * a.sides.width) l.totals (omega (arith, l.invariant.2.0))) ∙ l.invariant.2.1 ∙ take_all (l.row * a.sides.width) (totals_of a.sides a.tiles.now) (omega (arith, length_totals a.sides a.tiles.now))
