use mathlib.Core.Bool.{false}
use mathlib.Core.Path.{◌≡◌, refl, sym, ap, ◌∙◌}
use Prim.Native.Nat.{ℕ}
use borrow.Author.Rules.{rules}
use Rattle.character.specs.Tick.{seats}
use Rattle.world.specs.Step.{stepped_in}
use Rattle.send_calls.specs.Sending.{sent_in}
use Rattle.send_buffers.specs.Sends.{passes, keep_sent}
use Rattle.send_buffers.proofs.Kept.{count_fits, number_same_in, no_world, no_sender, no_room, all_room, none_passed, all_passed}
use Rattle.send_buffers.proofs.sending.pass_in.Goals.{then-world-ne-WORLD-via-then-world-ne-WORLD, then-world-ne-WORLD-via-else-world-ne-WORLD+then-sender-ne-SENDER, then-world-ne-WORLD-via-else-world-ne-WORLD+else-sender-ne-SENDER+then-passed-ne-PASSED}
use Rattle.send_buffers.proofs.sending.pass_in.Goals as goal

pub returns-then-world-ne-WORLD : goal.returns-then-world-ne-WORLD
returns-then-world-ne-WORLD c =
    let a = c.args in
    let none : passes a.world.now (record { sender = a.sender.now; passed = a.passed.now; count = a.count.now }) ≡ false =
    elim c.then-world-ne-WORLD.branch [
      | then-world-ne-WORLD-via-then-world-ne-WORLD w ↦ sym (no_world a.world.now (record { sender = a.sender.now; passed = a.passed.now; count = a.count.now }) w.if-world-ne-WORLD.true)
      | then-world-ne-WORLD-via-else-world-ne-WORLD+then-sender-ne-SENDER w ↦ sym (no_sender a.world.now (record { sender = a.sender.now; passed = a.passed.now; count = a.count.now }) w.if-world-ne-WORLD.false w.if-sender-ne-SENDER.true)
      | then-world-ne-WORLD-via-else-world-ne-WORLD+else-sender-ne-SENDER+then-passed-ne-PASSED w ↦ sym (no_room a.world.now (record { sender = a.sender.now; passed = a.passed.now; count = a.count.now }) w.if-world-ne-WORLD.false w.if-sender-ne-SENDER.false w.if-passed-ne-PASSED.true)
    ] in
    (rw none refl, none_passed a.call a.world.now (record { sender = a.sender.now; passed = a.passed.now; count = a.count.now }) (sym none))

pub keep_sent-requires : goal.keep_sent-requires
keep_sent-requires c =
    let s = c.send-called in
    (c.if-sender-ne-SENDER.false, c.if-passed-ne-PASSED.false, count_fits _ s.result.sending s.ensures.1 (search rules))

pub returns : goal.returns
returns c =
    let t = c.keep_sent in
    let s = c.send-called in
    let a = c.args in
    let e = all_room a.world.now (record { sender = a.sender.now; passed = a.passed.now; count = a.count.now }) c.if-world-ne-WORLD.false c.if-sender-ne-SENDER.false c.if-passed-ne-PASSED.false in
    (rw (sym e) refl, all_passed a.call a.world.now (record { sender = a.sender.now; passed = a.passed.now; count = a.count.now }) (stepped_in seats s.new.world s.result.answer) s.result.sending _ e (rw c.decode-next.ensures at s.ensures.0) (rw (c.decode-next.ensures, c.decode_copies.ensures) at s.ensures.1) (ap (λ (k : ℕ). keep_sent (record { sender = a.sender.now; passed = a.passed.now; count = a.count.now }) k (sent_in s.result.sending)) (sym (number_same_in s.new.world s.result.answer)) ∙ t.ensures))
