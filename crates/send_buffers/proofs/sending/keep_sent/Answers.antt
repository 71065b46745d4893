use mathlib.Core.Bool.{true, false, true≢false}
use mathlib.Core.Path.{◌≡◌, refl, sym, ◌∙◌}
use Rattle.std.specs.Prelude.{Result, Ok, Err}
use Rattle.std.specs.Result.{is_ok}
use Rattle.game_refusals.specs.Refusals.{number_of_answer}
use Rattle.game_refusals.specs.declared.Refusal.{Refusal}
use Rattle.world.proofs.Numbered.{numbered}
use Rattle.send_calls.specs.Sending.{sent_in}
use Rattle.send_buffers.proofs.Kept.{sent_kept, sent_left}
use Rattle.send_buffers.proofs.sending.keep_sent.Goals as goal

ok_number : {A : Type 0} (answer : Result A Refusal) → is_ok answer ≡ true → number_of_answer answer ≡ 0
ok_number (Ok a) e = refl
ok_number (Err refusal) e = absurd (true≢false (sym e))

other_number : {A : Type 0} (answer : Result A Refusal) → is_ok answer ≡ false → number_of_answer answer ≡ 0 → ⊥
other_number (Ok a) e z = true≢false e
other_number (Err refusal) e z = numbered refusal z

pub returns-then-is_ok : goal.returns-then-is_ok
returns-then-is_ok c =
    let a = c.args in
    let k = c.encode_items in
    let e = c.encode_copies in
    sent_kept _ _ (sent_in a.sending) e.new.numbers k.new.numbers k.result (ok_number a.answer (sym c.is_ok.ensures.value ∙ c.if-is_ok.true)) e.ensures k.ensures

pub returns-else-is_ok : goal.returns-else-is_ok
returns-else-is_ok c = let a = c.args in sent_left _ _ (sent_in a.sending) (other_number a.answer (sym c.is_ok.ensures.value ∙ c.if-is_ok.false))
