use mathlib.Core.Bool.{true, false}
use mathlib.Core.Path.{ap, ◌∙◌}
use native.Mathlib.Omega.{arith}
use lib.ListN.{length, set, length-set}
use Rattle.world_step.proofs.Listed.{as_i32}
use Rattle.world_buffers.proofs.Dying.{dead, alive, cleared_first, cleared_end, on_spikes, nobody}
use borrow.Author.Rules.{rules}
use Rattle.world_buffers.proofs.stepping.list_dying.Goals.{then-present-j+then-on_deadly, then-present-j+else-on_deadly, else-present-j}
use Rattle.world_buffers.proofs.stepping.list_dying.Goals as goal

pub loop-j-init : goal.loop-j-init
loop-j-init c = (search rules, search rules, c.requires.1, λ ss places. cleared_first _ _ ss _)

pub on_deadly-requires : goal.on_deadly-requires
on_deadly-requires c = c.requires.0

pub offset_bounds-ids-count : goal.offset_bounds-ids-count
offset_bounds-ids-count c = let l = c.loop-j in let h = c.loop-j-test.true in omega (arith, l.invariant.0, h)

pub bounds-ids-count : goal.bounds-ids-count
bounds-ids-count c = let l = c.loop-j in let h = c.loop-j-test.true in omega (arith, l.invariant.0, h)

pub overflow_add-count : goal.overflow_add-count
overflow_add-count c = let l = c.loop-j in let h = c.loop-j-test.true in omega (arith, l.invariant.0, h)

pub bounds-marks-j : goal.bounds-marks-j
bounds-marks-j c = c.loop-j-test.true

pub loop-j-preserved : goal.loop-j-preserved
loop-j-preserved c =
    let a = c.args in
    let l = c.loop-j in
    let h = c.loop-j-test.true in
    elim c.if-present-j.branch [
      | then-present-j+then-on_deadly w ↦ (
        (let e = w.count-is in omega (arith, l.invariant.0, e)),
        omega arith,
        ap length w.marks-is ∙ length-set l.marks l.j false ∙ l.invariant.2,
        λ ss places. dead a.sides a.tiles.now ss a.marks.now l.j l.marks l.ids l.count (l.invariant.3 ss places) h c.if-present-j.marks c.if-present-j.ids c.if-present-j.count l.invariant.2 (on_spikes a.sides a.tiles.now ss a.present.now a.xs.now a.ys.now places l.j h true w.on_deadly.result w.new-place.result w.if-present-j.true w.new-place.ensures w.on_deadly.ensures w.if-on_deadly.true) w.marks-is (w.ids-is ∙ ap (set l.ids l.count) (as_i32 l.j h)) w.count-is,
      )
      | then-present-j+else-on_deadly w ↦ (
        (let e = w.count-is in omega (arith, l.invariant.0, e)),
        omega arith,
        ap length w.marks-is ∙ l.invariant.2,
        λ ss places. alive a.sides a.tiles.now ss a.marks.now l.j l.marks l.ids l.count (l.invariant.3 ss places) h c.if-present-j.marks c.if-present-j.ids c.if-present-j.count (on_spikes a.sides a.tiles.now ss a.present.now a.xs.now a.ys.now places l.j h false w.on_deadly.result w.new-place.result w.if-present-j.true w.new-place.ensures w.on_deadly.ensures w.if-on_deadly.false) w.marks-is w.ids-is w.count-is,
      )
      | else-present-j w ↦ (
        (let e = w.count-is in omega (arith, l.invariant.0, e)),
        omega arith,
        ap length w.marks-is ∙ l.invariant.2,
        λ ss places. alive a.sides a.tiles.now ss a.marks.now l.j l.marks l.ids l.count (l.invariant.3 ss places) h c.if-present-j.marks c.if-present-j.ids c.if-present-j.count (nobody a.sides a.tiles.now ss a.present.now a.xs.now a.ys.now places l.j h w.if-present-j.false) w.marks-is w.ids-is w.count-is,
      )
    ]

pub returns : goal.returns
returns c = λ ss places.
    let a = c.args in
    let l = c.loop-j in
    cleared_end a.sides a.tiles.now ss a.marks.now l.j l.marks l.ids l.count (l.invariant.3 ss places) c.loop-j-test.false
