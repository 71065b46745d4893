use mathlib.Core.Path.{sym, ◌∙◌}
use Prim.Native.Nat.{◌+◌, ◌-◌, ◌*◌, ◌≤◌}
use native.Mathlib.Omega.{arith}
use borrow.Author.Rules.{rules}
use Rattle.base_turns.proofs.Each.{Each, each_none}
use Rattle.character_aside.specs.First.{Untouched}
use Rattle.character_aside.proofs.Firsts.{none_touched, found_later, found_none, interval_aside}
use Rattle.character_aside.proofs.first.first_touch.Goals as goal

pub loop-i-init : goal.loop-i-init
loop-i-init c = (each_none, omega arith, omega arith, omega arith)

pub overflow_sub-end : goal.overflow_sub-end
overflow_sub-end c = omega arith

pub overflow_add-next : goal.overflow_add-next
overflow_add-next c = omega arith

pub touch_by_turn-r-requires : goal.touch_by_turn-r-requires
touch_by_turn-r-requires c = (omega arith, omega arith)

pub returns-then-r-next : goal.returns-then-r-next
returns-then-r-next c = found_later _ _ _ _ _ _ _ _ _ c.loop-i.invariant.0 c.touch_by_turn-r.ensures (omega arith) c.if-r-next.true

pub overflow_mul-n : goal.overflow_mul-n
overflow_mul-n c = omega arith

pub loop-i-smaller-then-size-le-FEW : goal.loop-i-smaller-then-size-le-FEW
loop-i-smaller-then-size-le-FEW c = omega arith

pub loop-i-preserved-then-size-le-FEW : goal.loop-i-preserved-then-size-le-FEW
loop-i-preserved-then-size-le-FEW c = (found_none _ _ _ _ _ _ _ _ c.loop-i.invariant.0 c.touch_by_turn-r.ensures c.if-r-next.false, omega arith, omega arith, omega arith)

pub is_aside_interval-requires : goal.is_aside_interval-requires
is_aside_interval-requires c = (omega arith, omega arith)

pub overflow_mul-n-then-is_aside_interval : goal.overflow_mul-n-then-is_aside_interval
overflow_mul-n-then-is_aside_interval c = omega arith

pub loop-i-smaller-then-is_aside_interval : goal.loop-i-smaller-then-is_aside_interval
loop-i-smaller-then-is_aside_interval c = omega arith

pub loop-i-preserved-then-is_aside_interval : goal.loop-i-preserved-then-is_aside_interval
loop-i-preserved-then-is_aside_interval c =
    let pre = c.requires in
    (interval_aside _ _ _ _ _ _ _ c.loop-i.invariant.0 (omega arith) pre.0 (omega (arith, pre.1)) (sym c.is_aside_interval.ensures ∙ c.if-is_aside_interval.true), omega arith, omega arith, omega arith)

pub loop-i-smaller : goal.loop-i-smaller
loop-i-smaller c = omega arith

pub loop-i-preserved : goal.loop-i-preserved
loop-i-preserved c = (c.loop-i.invariant.0, omega arith, omega arith, omega arith)

pub returns : goal.returns
returns c = none_touched _ _ _ _ _ _ c.loop-i.invariant.0 (omega arith) (omega arith)
