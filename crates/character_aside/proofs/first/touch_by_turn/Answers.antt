use Prim.Native.Nat.{◌-◌}
use native.Mathlib.Omega.{arith}
use borrow.Author.Rules.{rules}
use Rattle.base_turns.proofs.Each.{Each, each_none, each_on}
use Rattle.character_aside.specs.First.{Untouched}
use Rattle.character_aside.proofs.Firsts.{none_touched, touched-at}
use Rattle.character_aside.proofs.first.touch_by_turn.Goals as goal

pub loop-i-init : goal.loop-i-init
loop-i-init c = each_none

pub point_at-requires : goal.point_at-requires
point_at-requires c = omega arith

pub returns-then-touches : goal.returns-then-touches
returns-then-touches c = touched-at _ _ _ _ _ _ _ c.loop-i.invariant c.loop-i-test.true (simp (← c.point_at.ensures, ← c.touches.ensures, c.if-touches.true))

pub loop-i-preserved : goal.loop-i-preserved
loop-i-preserved c = each_on c.loop-i.invariant (simp (← c.point_at.ensures, ← c.touches.ensures, c.if-touches.false))

pub returns : goal.returns
returns c = none_touched _ _ _ _ _ _ c.loop-i.invariant (omega arith) (omega arith)
