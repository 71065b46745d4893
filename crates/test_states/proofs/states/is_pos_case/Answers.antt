use mathlib.Core.Bool.{true≢false}
use mathlib.Core.Path.{sym, ◌∙◌}
use Rattle.test_states.proofs.Told.{point_in}
use Rattle.test_states.proofs.states.is_pos_case.Goals as goal

pub returns-then-nth-case : goal.returns-then-nth-case
returns-then-nth-case c h = absurd (true≢false (sym h))

pub returns : goal.returns
returns c h = (sym c.nth.ensures ∙ c.if-nth-case.false, point_in (c.is_point.ensures h) c.nth-2.ensures c.nth-3.ensures)
