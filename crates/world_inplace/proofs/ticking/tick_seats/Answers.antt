use Rattle.std.proofs.lemmas.Result.{err_from_is_err_and}
use mathlib.Core.Logic.{⊎_elim}
use mathlib.Core.Path.{sym, ◌∙◌}
use Prim.Native.Nat.{◌-◌}
use lib.ListN.{drop}
use Rattle.base_turns.proofs.Loop.{turn_first}
use Rattle.game_tuning.specs.Tuning.{tuning_count}
use Rattle.character.specs.Tick.{seats}
use Rattle.world.specs.Step.{tick_all}
use Rattle.world_numbers.specs.Decoding.{seats_of}
use Rattle.world_inplace.specs.Bodies.{Bodies}
use Rattle.world_inplace.proofs.Rows.{blank_long}
use Rattle.world_inplace.proofs.Ticked.{none_ticked, Ticking, tick_on, tick_past, tick_off, tick_end}
use borrow.Author.Rules.{rules}
use Rattle.world_inplace.proofs.ticking.tick_seats.Goals.{then-present-id+in_ok-tick_seat, else-present-id}
use Rattle.world_inplace.proofs.ticking.tick_seats.Goals as goal

pub loop-id-init : goal.loop-id-init
unfolding tick_all
loop-id-init c =
    let a = c.args in
    let p = c.requires in
    record { slots = seats_of seats (drop tuning_count a.numbers.now); goes = turn_first; stand = none_ticked a.numbers.now _ a.rows.now a.marks.now p.2 p.3 p.4 }

pub tick_seat-requires : goal.tick_seat-requires
tick_seat-requires c = let p = c.requires in (p.0, p.1, c.loop-id.invariant.stand.size, c.loop-id-test.true)

pub shape_of-rows-in_err-tick_seat : goal.shape_of-rows-in_err-tick_seat
shape_of-rows-in_err-tick_seat c = c.tick_seat.auto.rows ∙ c.loop-id.invariant.stand.size ∙ sym (blank_long _ c.requires.2.zeros)

pub returns-in_err-tick_seat : goal.returns-in_err-tick_seat
returns-in_err-tick_seat c =
    let p = err_from_is_err_and c.from_residual.result c.from_residual.ensures.1 in
    let l = c.loop-id in
    let a = c.args in
    rw (p.1, p.2) (tick_off a.numbers.now a.sides a.tiles.now a.tuning l.id _ (record { present = a.present.now; xs = a.xs.now; ys = a.ys.now; vxs = l.vxs; vys = l.vys }) l.rows l.marks l.invariant c.loop-id-test.true c.if-present-id.true c.tick_seat.result _ c.in_err-tick_seat.was _ _ _ c.tick_seat.ensures)

pub loop-id-preserved : goal.loop-id-preserved
loop-id-preserved c =
    let l = c.loop-id in
    let a = c.args in
    let h = c.loop-id-test.true in
    let b : Bodies = record { present = a.present.now; xs = a.xs.now; ys = a.ys.now; vxs = l.vxs; vys = l.vys } in
    elim c.if-present-id.branch [
      | then-present-id+in_ok-tick_seat w ↦ rw (w.vxs-is, w.vys-is, w.rows-is, w.marks-is) (tick_on a.numbers.now a.sides a.tiles.now a.tuning l.id _ b l.rows l.marks l.invariant h w.if-present-id.true w.tick_seat.result _ w.in_ok-tick_seat.was _ _ _ w.tick_seat.ensures)
      | else-present-id w ↦ rw (w.vxs-is, w.vys-is, w.rows-is, w.marks-is) (tick_past a.numbers.now a.sides a.tiles.now a.tuning l.id _ b l.rows l.marks l.invariant h w.if-present-id.false)
    ]

pub shape_of-rows : goal.shape_of-rows
shape_of-rows c = c.loop-id.invariant.stand.size ∙ sym (blank_long _ c.requires.2.zeros)

pub returns : goal.returns
returns c =
    let l = c.loop-id in
    let a = c.args in
    tick_end a.numbers.now a.sides a.tiles.now a.tuning l.id _ (record { present = a.present.now; xs = a.xs.now; ys = a.ys.now; vxs = l.vxs; vys = l.vys }) l.rows l.marks l.invariant c.loop-id-test.false
