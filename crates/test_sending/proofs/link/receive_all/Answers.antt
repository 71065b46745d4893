use Prim.Native.Nat.{◌-◌, ◌*◌, ◌≤◌}
use mathlib.Core.Logic.{⊎_elim}
use mathlib.Core.Path.{◌≡◌, ap, ◌∙◌}
use native.Mathlib.Omega.{arith}
use lib.ListN.{length}
use Rattle.character.specs.Tick.{seats}
use Rattle.send_rule.specs.Send.{most_passed}
use Rattle.send_numbers.specs.Passing.{message_count}
use borrow.Author.Rules.{rules}
use Rattle.test_sending.proofs.link.receive_all.Goals.{then-at-passed, else-at-passed, then-used-le-MESSAGE, else-used-le-MESSAGE}
use Rattle.test_sending.proofs.link.receive_all.Goals as goal

pub loop-preserved : goal.loop-preserved
loop-preserved c =
    let l = c.loop in (
      elim c.if-at-passed.branch [
        | then-at-passed w ↦ ap length w.screen-is ∙ w.receive_in.auto.screen ∙ l.invariant.0
        | else-at-passed w ↦ ap length w.screen-is ∙ l.invariant.0
      ],
      omega arith,
      elim c.if-used-le-MESSAGE.branch [
        | then-used-le-MESSAGE w ↦ omega (arith, w.if-used-le-MESSAGE.true, w.at-is, l.invariant.2)
        | else-used-le-MESSAGE w ↦ omega (arith, w.at-is, l.invariant.2)
      ],
    )
