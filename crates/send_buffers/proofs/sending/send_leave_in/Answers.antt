use mathlib.Core.Bool.{true, false}
use mathlib.Core.Path.{refl, sym}
use mir.Facts.{to_z-of_z}
use Rattle.std.proofs.lemmas.Result.{err_from_is_err_and}
use Rattle.world.specs.declared.call.Call.TheVariants as call
use Rattle.world_buffers.specs.Buffers.{leave_in}
use Rattle.send_buffers.proofs.Kept.{made, not_made, has_no_room, has_its_room}
use Rattle.send_buffers.proofs.sending.send_leave_in.Goals as goal

pub returns-in_err-pass_in : goal.returns-in_err-pass_in
returns-in_err-pass_in c =
    let a = c.args in
    let e = c.in_err-pass_in.ensures in
    let n = has_no_room a.world.now (record { sender = a.sender.now; passed = a.passed.now; count = a.count.now }) c.in_err-pass_in.field-0.0 e.0 in
    let p = err_from_is_err_and c.from_residual.result c.from_residual.ensures.1 in
    rw (p.1, p.2, n.1) (not_made (call.Leave a.id) a.world.now (record { sender = a.sender.now; passed = a.passed.now; count = a.count.now }) (leave_in a.world.now a.id) false _ (sym n.0) (rw (to_z-of_z c.ranges.id) at e.1) refl)

pub returns : goal.returns
returns c =
    let a = c.args in
    let e = c.in_ok-pass_in.ensures in
    let room = has_its_room a.world.now (record { sender = a.sender.now; passed = a.passed.now; count = a.count.now }) _ e.0 in
    made (call.Leave a.id) a.world.now (record { sender = a.sender.now; passed = a.passed.now; count = a.count.now }) (leave_in a.world.now a.id) true _ (sym room) (rw (to_z-of_z c.ranges.id) at e.1) _ refl (rw (to_z-of_z c.ranges.id) at c.leave_in.ensures)
