use Prim.Native.Nat.{◌+◌}
use mathlib.Core.Path.{ap, ap₂, ◌∙◌}
use native.Mathlib.Omega.{arith}
use Rattle.std.specs.Prelude.{Ok}
use Rattle.game_records.specs.declared.PlayerInput.{PlayerInput}
use Rattle.game_records.specs.declared.CharacterCore.{CharacterCore}
use Rattle.game_records.specs.Numbers.{core_count, core_in, input_of_numbers}
use Rattle.world_numbers.proofs.RowsIn.{to_end}
use Rattle.send_numbers.specs.Passing.{message_count}
use Rattle.std.proofs.lemmas.Result.{err_from_is_err_and}
use Rattle.game_refusals.specs.declared.Refusal.TheVariants.{BadId}
use Rattle.character.specs.Tick.{seats}
use Rattle.send_rule.specs.declared.Passed.TheVariants as passed
use Rattle.send_numbers.specs.Reading.{message_in, read_message}
use Rattle.send_numbers.proofs.Readings.{not_named, is_named}
use Rattle.send_numbers.proofs.reading.read_message.Goals as goal

pub returns-in_err-id : goal.returns-in_err-id
unfolding read_message
returns-in_err-id c =
    let l = c.args.numbers.now in
    let p = err_from_is_err_and c.from_residual.result c.from_residual.ensures.1 in
    rw (p.1, p.2) (not_named message_count seats BadId l (message_in l) c.in_err-id.field-0.0 c.in_err-id.ensures)

pub returns : goal.returns
unfolding read_message
returns c =
    let l = c.args.numbers.now in
    let h = is_named message_count seats BadId l (message_in l) c.in_ok-id.id c.in_ok-id.ensures in
    ap₂ (λ (n : CharacterCore) (i : PlayerInput). Ok (passed.Message c.in_ok-id.id n i, message_count)) (c.core_of-core.ensures ∙ ap core_in (to_end 2 l (omega (arith, h.0)))) (c.input_of-input.ensures ∙ ap input_of_numbers (to_end (2 + core_count) l (omega (arith, h.0))))
    ∙ h.1
