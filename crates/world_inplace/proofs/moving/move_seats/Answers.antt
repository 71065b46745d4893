use Rattle.std.proofs.lemmas.Result.{err_from_is_err_and}
use mathlib.Core.Bool.{Bool}
use mathlib.Core.List.{List}
use mathlib.Core.Logic.{⊎_elim}
use mathlib.Core.Path.{◌≡◌, sym, ap, ◌∙◌}
use Prim.Native.Nat.{◌-◌}
use lib.ListN.{length}
use Rattle.base_turns.proofs.Loop.{turn_first}
use Rattle.character.specs.Tick.{seats}
use Rattle.character.specs.declared.Slot.{Slot}
use Rattle.world.specs.Step.{moving_from, move_all}
use Rattle.world_numbers.specs.Encoding.{records_count}
use Rattle.world_inplace.specs.Bodies.{Bodies}
use Rattle.world_inplace.specs.Moves.{Ready}
use Rattle.world_inplace.proofs.Moved.{none_moved, Going, move_on, move_past, move_off, move_end}
use borrow.Author.Rules.{rules}
use Rattle.world_inplace.proofs.moving.move_seats.Goals.{then-present-id+in_ok-move_seat, else-present-id}
use Rattle.world_inplace.proofs.moving.move_seats.Goals as goal

pub loop-id-init : goal.loop-id-init
unfolding move_all
loop-id-init c =
    let a = c.args in
    (c.requires.1, λ ss marks h. record { moving = moving_from seats ss; goes = turn_first; stand = none_moved ss _ a.rows.now marks h })

pub move_seat-requires : goal.move_seat-requires
move_seat-requires c = let p = c.requires in (p.0, c.loop-id.invariant.0, c.loop-id-test.true)

pub shape_of-rows-in_err-move_seat : goal.shape_of-rows-in_err-move_seat
shape_of-rows-in_err-move_seat c = c.move_seat.auto.rows ∙ c.loop-id.invariant.0 ∙ sym c.requires.1

pub returns-in_err-move_seat : goal.returns-in_err-move_seat
returns-in_err-move_seat c = λ ss marks h.
    let p = err_from_is_err_and c.from_residual.result c.from_residual.ensures.1 in
    let l = c.loop-id in
    let a = c.args in
    rw (p.1, p.2) (move_off a.sides a.tiles.now a.tuning l.id _ (record { present = a.present.now; xs = l.xs; ys = l.ys; vxs = a.vxs.now; vys = a.vys.now }) l.rows marks (l.invariant.1 ss marks h) c.loop-id-test.true c.if-present-id.true c.move_seat.result _ c.in_err-move_seat.was _ _ c.move_seat.ensures)

pub loop-id-preserved : goal.loop-id-preserved
loop-id-preserved c =
    let l = c.loop-id in
    let a = c.args in
    let h = c.loop-id-test.true in
    let b : Bodies = record { present = a.present.now; xs = l.xs; ys = l.ys; vxs = a.vxs.now; vys = a.vys.now } in
    elim c.if-present-id.branch [
      | then-present-id+in_ok-move_seat w ↦ (ap length w.rows-is ∙ w.move_seat.auto.rows ∙ l.invariant.0, λ ss marks r. rw (w.xs-is, w.ys-is, w.rows-is) (move_on a.sides a.tiles.now a.tuning l.id _ b l.rows marks (l.invariant.1 ss marks r) h w.if-present-id.true w.move_seat.result _ w.in_ok-move_seat.was _ _ w.move_seat.ensures))
      | else-present-id w ↦ (ap length w.rows-is ∙ l.invariant.0, λ ss marks r. rw (w.xs-is, w.ys-is, w.rows-is) (move_past a.sides a.tiles.now a.tuning l.id _ b l.rows marks (l.invariant.1 ss marks r) h w.if-present-id.false))
    ]

pub shape_of-rows : goal.shape_of-rows
shape_of-rows c = c.loop-id.invariant.0 ∙ sym c.requires.1

pub returns : goal.returns
returns c = λ ss marks h.
    let l = c.loop-id in
    let a = c.args in
    move_end a.sides a.tiles.now a.tuning l.id _ (record { present = a.present.now; xs = l.xs; ys = l.ys; vxs = a.vxs.now; vys = a.vys.now }) l.rows marks (l.invariant.1 ss marks h) c.loop-id-test.false
