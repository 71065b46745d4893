use mathlib.Core.List.{List}
use mathlib.Core.Path.{◌≡◌, refl, sym, ap, ◌∙◌}
use Prim.Native.Nat.{ℕ, ◌-◌, ◌^◌}
use native.Mathlib.Omega.{arith}
use lib.Dec.{le→leb}
use lib.Ieee.{Float, binary32, div, in_float}
use lib.IntN.{pos}
use borrow.Author.Rules.{rules}
use Rattle.character_near.specs.Near.{near_turn, near_walk_turn, or_to, walk_near}
use Rattle.num_convert.specs.Convert.{i32_to_f32}
use Rattle.base_turns.proofs.Loop.{Left, turn_first, turn_on, turn_off, turn_end}
use Rattle.base_turns.specs.Turns.{more, stop, run}
use Rattle.num_vec2.specs.Vec2.{vmix}
use Rattle.num_vec2.specs.declared.vec2.{vec2}
use Rattle.character_near.proofs.walk.walk_by_turn.Goals as goal

-- a turn, on plain values: nobody is close to its point; somebody is
module _ (m : ℕ) (xs ys : List Float) (from to : vec2) (distance : Float) (i : ℕ) (last p : vec2) (at : p ≡ vmix from to (div binary32 (i32_to_f32 (pos i)) distance)) where
  passed : run (near_turn xs ys from to last (div binary32 (i32_to_f32 (pos i)) distance) p) m 0 tt ≡ more tt → near_walk_turn m xs ys from to distance i last ≡ more p
  passed e = simp (← at, e)

  stopped : (r : vec2) → run (near_turn xs ys from to last (div binary32 (i32_to_f32 (pos i)) distance) p) m 0 tt ≡ stop r → near_walk_turn m xs ys from to distance i last ≡ stop r
  stopped r e = simp (← at, e)

pub walk-init : goal.walk-init
walk-init c = (refl, turn_first)

pub int_to_float-fraction : goal.int_to_float-fraction
unfolding in_float
int_to_float-fraction c = le→leb c.walk.i (2 ^ 24) (omega arith)

pub loop-k-init : goal.loop-k-init
loop-k-init c = (refl, turn_first)

pub offset_bounds-xs-k : goal.offset_bounds-xs-k
offset_bounds-xs-k c = omega arith

pub offset_bounds-ys-k : goal.offset_bounds-ys-k
offset_bounds-ys-k c = omega arith

pub overflow_step-k : goal.overflow_step-k
overflow_step-k c = omega arith

pub loop-k-smaller : goal.loop-k-smaller
loop-k-smaller c = omega arith

pub loop-k-preserved : goal.loop-k-preserved
loop-k-preserved c =
    let l = c.loop-k in
    (l.invariant.0, turn_on l.invariant.1 c.loop-k-test.true (simp (← c.new-q.ensures, ← c.touches.ensures, c.if-touches.false)))

pub overflow_step-i : goal.overflow_step-i
overflow_step-i c = omega arith

pub walk-smaller : goal.walk-smaller
walk-smaller c = omega arith

pub walk-preserved : goal.walk-preserved
unfolding i32_to_f32
walk-preserved c =
    let w = c.walk in
    let l = c.loop-k in
    let a = c.args in
    (l.invariant.0 ∙ w.invariant.0, turn_on w.invariant.1 c.walk-test.true (passed a.count a.xs.now a.ys.now a.from a.to a.distance w.i w.last c.mix-p.result c.mix-p.ensures (turn_end l.invariant.1 c.loop-k-test.false)))

pub returns-after-walk : goal.returns-after-walk
unfolding walk_near
returns-after-walk c = let w = c.walk in w.invariant.0 ∙ sym (ap (or_to _) (turn_end w.invariant.1 c.walk-test.false))

pub returns-then-touches : goal.returns-then-touches
unfolding walk_near i32_to_f32
returns-then-touches c =
    let w = c.walk in
    let l = c.loop-k in
    let a = c.args in
    let m = c.mix-p in
    sym (ap (or_to a.to) (turn_off {r = c.rest_at-rest.result} w.invariant.1 c.walk-test.true
    (stopped a.count a.xs.now a.ys.now a.from a.to a.distance w.i w.last m.result m.ensures c.rest_at-rest.result (turn_off {r = c.rest_at-rest.result} l.invariant.1 c.loop-k-test.true (simp (← c.new-q.ensures, ← c.touches.ensures, c.if-touches.true, ← c.rest_at-rest.ensures))))))
