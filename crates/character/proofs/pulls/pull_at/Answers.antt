use borrow.Author.Tests.{eq-eqb, ne_eqb}
use borrow.Author.Rules.{rules}
use Rattle.character.specs.Among.{pull_at}
use Rattle.character.proofs.pulls.pull_at.Goals as goal

pub returns-then-held-own : goal.returns-then-held-own
unfolding pull_at
returns-then-held-own c = simp (eq-eqb _ _ c.if-held-own.true)

pub returns-then-present : goal.returns-then-present
unfolding pull_at
returns-then-present c = simp (ne_eqb _ _ c.if-held-own.false, c.if-present.true, ← c.pull_on.ensures)

pub returns : goal.returns
unfolding pull_at
returns c = simp (ne_eqb _ _ c.if-held-own.false, c.if-present.false)
