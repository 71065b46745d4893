use Prim.Native.Nat.{◌-◌, ◌*◌, ◌≤◌}
use mathlib.Core.Logic.{⊎_elim}
use mathlib.Core.Path.{◌≡◌, ap, ◌∙◌}
use native.Mathlib.Omega.{arith}
use lib.ListN.{length}
use Rattle.character.specs.Tick.{seats}
use Rattle.send_rule.specs.Send.{most_passed}
use Rattle.send_numbers.specs.Passing.{message_count}
use borrow.Author.Rules.{rules}
use Rattle.test_sending.proofs.link.receive_all.Given as goal

abbrev pub invariant-loop : goal.invariant-loop
invariant-loop l = (length l.screen ≡ length l.initial.screen) × (l.counter ≤ most_passed seats) × (l.at ≤ message_count * l.counter)

abbrev pub decreases-loop : goal.decreases-loop
decreases-loop l = most_passed seats - l.counter
