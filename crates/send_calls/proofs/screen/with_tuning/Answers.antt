use mathlib.Core.Path.{◌≡◌, sym}
use native.Mathlib.Omega.{arith}
use lib.ListN.{length}
use lib.Seq.{set_out}
use Rattle.game_tuning.specs.Tuning.{tuning_count}
use borrow.Author.Rules.{rules}
use Rattle.send_calls.proofs.screen.with_tuning.Goals as goal

pub returns-else-at-lt-TUNINGS : goal.returns-else-at-lt-TUNINGS
returns-else-at-lt-TUNINGS c =
    let m : length c.args.tunings ≡ tuning_count = search rules in
    sym (set_out c.args.tunings c.args.at c.args.value (omega (arith, m, c.if-at-lt-TUNINGS.false)))
