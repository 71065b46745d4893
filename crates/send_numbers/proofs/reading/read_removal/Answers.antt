use Rattle.std.proofs.lemmas.Result.{err_from_is_err_and}
use Rattle.game_refusals.specs.declared.Refusal.TheVariants.{BadId}
use Rattle.character.specs.Tick.{seats}
use Rattle.send_rule.specs.declared.Passed.TheVariants as passed
use Rattle.send_numbers.specs.Reading.{read_removal}
use Rattle.send_numbers.proofs.Readings.{not_named, is_named}
use Rattle.send_numbers.proofs.reading.read_removal.Goals as goal

pub returns-in_err-id : goal.returns-in_err-id
unfolding read_removal
returns-in_err-id c =
    let l = c.args.numbers.now in
    let p = err_from_is_err_and c.from_residual.result c.from_residual.ensures.1 in
    rw (p.1, p.2) (not_named 2 seats BadId l passed.Removal c.in_err-id.field-0.0 c.in_err-id.ensures)

pub returns : goal.returns
unfolding read_removal
returns c =
    let l = c.args.numbers.now in
    let h = is_named 2 seats BadId l passed.Removal c.in_ok-id.id c.in_ok-id.ensures in
    h.1
