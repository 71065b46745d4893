use mathlib.Core.Path.{ap, ◌∙◌}
use lib.IntN.{ℤ}
use Rattle.std.specs.Prelude.{Ok}
use Rattle.game_records.proofs.Bits.{again}
use Rattle.game_tuning.specs.Tuning.{tuning_count}
use Rattle.std.proofs.lemmas.Result.{err_from_is_err_and}
use Rattle.game_refusals.specs.declared.Refusal.TheVariants.{BadTuning}
use Rattle.send_rule.specs.declared.Passed.TheVariants as passed
use Rattle.send_numbers.specs.Reading.{tune_read, read_tune}
use Rattle.send_numbers.proofs.Readings.{not_named, is_named}
use Rattle.send_numbers.proofs.reading.read_tune.Goals as goal

pub returns-in_err-index : goal.returns-in_err-index
unfolding read_tune
returns-in_err-index c =
    let l = c.args.numbers.now in
    let p = err_from_is_err_and c.from_residual.result c.from_residual.ensures.1 in
    rw (p.1, p.2) (not_named 3 tuning_count BadTuning l (tune_read l) c.in_err-index.field-0.0 c.in_err-index.ensures)

pub returns : goal.returns
unfolding read_tune
returns c =
    let l = c.args.numbers.now in
    let h = is_named 3 tuning_count BadTuning l (tune_read l) c.in_ok-index.index c.in_ok-index.ensures in
    ap (λ (z : ℤ). Ok (passed.Tune c.in_ok-index.index z, 3)) (again c.value-1.given) ∙ h.1
