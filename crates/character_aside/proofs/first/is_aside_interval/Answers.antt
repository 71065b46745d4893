use native.Mathlib.Omega.{arith}
use borrow.Author.Rules.{rules}
use Rattle.character_aside.specs.First.{is_aside_interval}
use Rattle.character_aside.proofs.first.is_aside_interval.Goals as goal

pub point_at-first-requires : goal.point_at-first-requires
point_at-first-requires c = omega arith

pub overflow_sub-next : goal.overflow_sub-next
overflow_sub-next c = omega arith

pub point_at-last-requires : goal.point_at-last-requires
point_at-last-requires c = omega arith

pub returns : goal.returns
unfolding is_aside_interval
returns c = simp (← c.point_at-first.ensures, ← c.point_at-last.ensures, ← c.may_touch.ensures)
