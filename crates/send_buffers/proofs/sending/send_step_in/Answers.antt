use mathlib.Core.Path.{sym, subst}
use borrow.Author.Rules.{rules}
use Rattle.std.specs.Prelude.{Ok, Err}
use Rattle.std.proofs.lemmas.Result.{err_from_is_err_and}
use Rattle.character.specs.Tick.{seats}
use Rattle.world.specs.Step.{stepped_in}
use Rattle.world.specs.Answered.{Stepped}
use Rattle.world_buffers.specs.Leaving.{ListsSeats}
use Rattle.world_buffers.proofs.Listed.{step_lists}
use Rattle.world.proofs.Numbered.{numbered}
use Rattle.world_buffers.proofs.StepAnswers.{step-refused}
use Rattle.send_buffers.proofs.Kept.{count_fits, step_wrong_world, step_wrong_records, step-wrong-removed, step-wrong-sender, step-wrong-passed, step_right}
use Rattle.send_buffers.proofs.sending.send_step_in.Goals.{then-world-ne-WORLD-via-then-world-ne-WORLD, then-world-ne-WORLD-via-else-world-ne-WORLD+then-records-ne-RECORDS, then-world-ne-WORLD-via-else-world-ne-WORLD+else-records-ne-RECORDS+then-removed-ne-SEATS, then-world-ne-WORLD-via-else-world-ne-WORLD+else-records-ne-RECORDS+else-removed-ne-SEATS+then-sender-ne-SENDER, then-world-ne-WORLD-via-else-world-ne-WORLD+else-records-ne-RECORDS+else-removed-ne-SEATS+else-sender-ne-SENDER+then-passed-ne-PASSED}
use Rattle.send_buffers.proofs.sending.send_step_in.Goals as goal

pub returns-then-world-ne-WORLD : goal.returns-then-world-ne-WORLD
returns-then-world-ne-WORLD c n =
    let a = c.args in
    elim c.then-world-ne-WORLD.branch [
      | then-world-ne-WORLD-via-then-world-ne-WORLD w ↦ step_wrong_world a.sides a.tiles.now a.world.now (record { records = a.records.now; removed = a.removed.now; count = n }) (record { sender = a.sender.now; passed = a.passed.now; count = a.count.now }) w.if-world-ne-WORLD.true
      | then-world-ne-WORLD-via-else-world-ne-WORLD+then-records-ne-RECORDS w ↦ step_wrong_records a.sides a.tiles.now a.world.now (record { records = a.records.now; removed = a.removed.now; count = n }) (record { sender = a.sender.now; passed = a.passed.now; count = a.count.now }) w.if-world-ne-WORLD.false w.if-records-ne-RECORDS.true
      | then-world-ne-WORLD-via-else-world-ne-WORLD+else-records-ne-RECORDS+then-removed-ne-SEATS w ↦ step-wrong-removed a.sides a.tiles.now a.world.now (record { records = a.records.now; removed = a.removed.now; count = n }) (record { sender = a.sender.now; passed = a.passed.now; count = a.count.now }) w.if-world-ne-WORLD.false w.if-records-ne-RECORDS.false w.if-removed-ne-SEATS.true
      | then-world-ne-WORLD-via-else-world-ne-WORLD+else-records-ne-RECORDS+else-removed-ne-SEATS+then-sender-ne-SENDER w ↦ step-wrong-sender a.sides a.tiles.now a.world.now (record { records = a.records.now; removed = a.removed.now; count = n }) (record { sender = a.sender.now; passed = a.passed.now; count = a.count.now }) w.if-world-ne-WORLD.false w.if-records-ne-RECORDS.false w.if-removed-ne-SEATS.false w.if-sender-ne-SENDER.true
      | then-world-ne-WORLD-via-else-world-ne-WORLD+else-records-ne-RECORDS+else-removed-ne-SEATS+else-sender-ne-SENDER+then-passed-ne-PASSED w ↦ step-wrong-passed a.sides a.tiles.now a.world.now (record { records = a.records.now; removed = a.removed.now; count = n }) (record { sender = a.sender.now; passed = a.passed.now; count = a.count.now }) w.if-world-ne-WORLD.false w.if-records-ne-RECORDS.false w.if-removed-ne-SEATS.false w.if-sender-ne-SENDER.false w.if-passed-ne-PASSED.true
    ]

pub keep_sent-requires : goal.keep_sent-requires
keep_sent-requires c =
    let s = c.send-called in
    (c.if-sender-ne-SENDER.false, c.if-passed-ne-PASSED.false, count_fits _ s.result.sending s.ensures.1 (search rules))

pub write_step-requires : goal.write_step-requires
write_step-requires c =
    let e = rw c.in_ok-told.was at c.send-called.ensures.0 in
    (c.if-world-ne-WORLD.false, c.if-records-ne-RECORDS.false, c.if-removed-ne-SEATS.false, subst (λ (a : Stepped). ListsSeats a.removed) (sym e) (step_lists _ _ _))

pub returns-in_err-told : goal.returns-in_err-told
returns-in_err-told c n =
    let a = c.args in
    let s = c.send-called in
    let w = s.new.world in
    let e = c.in_err-told.field-0.0 in
    let p = err_from_is_err_and c.from_residual.result c.from_residual.ensures.1 in
    rw (p.1, p.2) (step_right a.sides a.tiles.now a.world.now (record { records = a.records.now; removed = a.removed.now; count = n }) (record { sender = a.sender.now; passed = a.passed.now; count = a.count.now }) c.if-world-ne-WORLD.false c.if-records-ne-RECORDS.false c.if-removed-ne-SEATS.false (stepped_in seats w (Err e)) s.result.sending _ _ c.if-sender-ne-SENDER.false c.if-passed-ne-PASSED.false (rw (c.decode-next.ensures, c.in_err-told.was) at s.ensures.0) (rw (c.decode-next.ensures, c.decode_copies.ensures) at s.ensures.1) (step-refused a.world.now (record { records = a.records.now; removed = a.removed.now; count = n }) (stepped_in seats w (Err e)) (numbered e)) (rw c.in_err-told.was at c.keep_sent.ensures))

pub returns : goal.returns
returns c n =
    let a = c.args in
    let s = c.send-called in
    let w = s.new.world in
    step_right a.sides a.tiles.now a.world.now (record { records = a.records.now; removed = a.removed.now; count = n }) (record { sender = a.sender.now; passed = a.passed.now; count = a.count.now }) c.if-world-ne-WORLD.false c.if-records-ne-RECORDS.false c.if-removed-ne-SEATS.false (stepped_in seats w (Ok c.in_ok-told.told)) s.result.sending _ _ c.if-sender-ne-SENDER.false c.if-passed-ne-PASSED.false (rw (c.decode-next.ensures, c.in_ok-told.was) at s.ensures.0) (rw (c.decode-next.ensures, c.decode_copies.ensures) at s.ensures.1) (c.write_step.ensures n) (rw c.in_ok-told.was at c.keep_sent.ensures)
