use Rattle.std.proofs.Common.{◌≡◌, ℕ, ◌+◌, ◌-◌, ◌*◌, List, map, length, sym, ap, ◌∙◌, arith}
use borrow.Rule.Slice.PartMut.{mid_of, put_mid}
use Rattle.map_totals.specs.Area.{added}
use Rattle.map_area.proofs.Adding.{partly, partly_first, partly_last, partly-next, row_ends, length_partly}
use Rattle.map_area.proofs.changing.add_from.Goals as goal

pub loop-r-init : goal.loop-r-init
loop-r-init c =
    let a = c.args in
    (omega arith, omega arith, c.requires.2, partly_first a.sides a.totals.now a.column a.row a.n c.requires.2)

pub overflow_mul-start : goal.overflow_mul-start
overflow_mul-start c =
    let a = c.args in
    let l = c.loop-r in
    let e = row_ends a.sides a.totals.now a.column a.row a.n l.r c.requires.0 c.loop-r-test.true l.invariant.0 in
    record { fits = omega (arith, l.invariant.2) }

pub overflow_add-start : goal.overflow_add-start
overflow_add-start c =
    let a = c.args in
    let l = c.loop-r in
    let e = row_ends a.sides a.totals.now a.column a.row a.n l.r c.requires.0 c.loop-r-test.true l.invariant.0 in
    record { fits = omega (arith, l.invariant.2) }

pub overflow_mul-end : goal.overflow_mul-end
overflow_mul-end c =
    let a = c.args in
    let l = c.loop-r in
    let e = row_ends a.sides a.totals.now a.column a.row a.n l.r c.requires.0 c.loop-r-test.true l.invariant.0 in
    record { fits = omega (arith, l.invariant.2) }

pub overflow_add-end : goal.overflow_add-end
overflow_add-end c =
    let a = c.args in
    let l = c.loop-r in
    let e = row_ends a.sides a.totals.now a.column a.row a.n l.r c.requires.0 c.loop-r-test.true l.invariant.0 in
    record { fits = omega (arith, l.invariant.2) }

pub offset_bounds-totals-start : goal.offset_bounds-totals-start
offset_bounds-totals-start c =
    let a = c.args in
    let l = c.loop-r in
    let e = row_ends a.sides a.totals.now a.column a.row a.n l.r c.requires.0 c.loop-r-test.true l.invariant.0 in
    record { fits = omega (arith, l.invariant.2) }

pub loop-r-preserved : goal.loop-r-preserved
loop-r-preserved c =
    let a = c.args in
    let l = c.loop-r in
    let t = c.add_all in
    let from : ℕ = l.r * a.sides.width + a.column in
    let many : ℕ = l.r * a.sides.width + a.sides.width - from in
    let e : put_mid from many l.totals t.new.entries ≡ partly a.sides a.totals.now a.column a.row a.n (l.r + 1) =
    ap (put_mid from many l.totals) t.ensures
    ∙ ap (λ (x : List ℕ). put_mid from many x (map (added a.n) (mid_of from many x))) l.invariant.3
    ∙ partly-next a.sides a.totals.now a.column a.row a.n l.r c.requires.0 c.loop-r-test.true l.invariant.0 in
    (omega arith, omega arith, ap length e ∙ length_partly a.sides a.totals.now a.column a.row a.n (l.r + 1), e)

pub shape_of-totals : goal.shape_of-totals
shape_of-totals c = c.loop-r.invariant.2 ∙ sym c.requires.2

pub returns : goal.returns
returns c =
    let a = c.args in
    let l = c.loop-r in
    let h : l.r ≡ a.sides.height = omega arith in
    l.invariant.3 ∙ ap (partly a.sides a.totals.now a.column a.row a.n) h ∙ partly_last a.sides a.totals.now a.column a.row a.n
