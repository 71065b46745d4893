use borrow.Author.Tests.{lt-ltb, le-ltb}
use Rattle.send_calls.proofs.copies.counted.Goals as goal

pub returns-then-steps-lt-MOST_STEPS : goal.returns-then-steps-lt-MOST_STEPS
returns-then-steps-lt-MOST_STEPS c = simp (lt-ltb _ _ c.if-steps-lt-MOST_STEPS.true)

pub returns : goal.returns
returns c = simp (le-ltb _ _ c.if-steps-lt-MOST_STEPS.false)
