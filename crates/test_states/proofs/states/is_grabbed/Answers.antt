use mathlib.Core.Bool.{true≢false}
use mathlib.Core.Path.{sym, ◌∙◌}
use borrow.Author.Tests.{eqb-true}
use Rattle.test_states.proofs.states.is_grabbed.Goals as goal

pub returns-then-nth-ne3 : goal.returns-then-nth-ne3
returns-then-nth-ne3 c h = absurd (true≢false (sym h))

pub returns-then-nth-id : goal.returns-then-nth-id
returns-then-nth-id c h = absurd (true≢false (sym h))

pub returns : goal.returns
returns c h = (sym c.nth.ensures ∙ c.if-nth-ne3.false, sym c.nth-2.ensures ∙ c.if-nth-id.false, sym c.nth-3.ensures ∙ eqb-true _ _ h)
