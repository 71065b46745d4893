use Rattle.std.proofs.Common.{◌≡◌, ◌+◌, cond, sym, ap, ◌∙◌, arith}
use lib.Ieee.{Float, binary32, mul}
use Rattle.base_turns.specs.Turns.{more}
use Rattle.base_turns.proofs.Loop.{fold_first, fold_end, turn_on}
use Rattle.num_ramp.specs.Power.{bit, squares}
use Rattle.num_ramp.proofs.Bits.{set, clear}
use Rattle.num_ramp.proofs.power.squares.Goals.{else-k-i-eq1, then-k-i-eq1}
use Rattle.num_ramp.proofs.power.squares.Goals as goal

pub loop-i-init : goal.loop-i-init
loop-i-init c = fold_first

pub overflow_add-i : goal.overflow_add-i
overflow_add-i c = omega arith

pub overflow_shr-k : goal.overflow_shr-k
overflow_shr-k c = omega arith

pub overflow_step-i : goal.overflow_step-i
overflow_step-i c = omega arith

pub loop-i-smaller : goal.loop-i-smaller
loop-i-smaller c = omega arith

pub loop-i-preserved : goal.loop-i-preserved
loop-i-preserved c =
    let l = c.before.before.loop-i in
    let k = c.before.before.before.args.k in
    let a = mul binary32 l.p l.q in
    let e : cond (bit k (16 + l.i)) a l.p ≡ c.if-k-i-eq1.p = elim c.if-k-i-eq1.branch [ then-k-i-eq1 w ↦ set k (16 + l.i) a l.p w.if-k-i-eq1.true ∙ sym w.p-is | else-k-i-eq1 w ↦ clear k (16 + l.i) a l.p w.if-k-i-eq1.false ∙ sym w.p-is ] in
    turn_on l.invariant (omega arith) (ap (λ (p : Float). more (p, mul binary32 l.q l.q)) e)

pub returns : goal.returns
unfolding squares
returns c = sym (ap (λ (s : Float × Float). s.0) (fold_end c.before.loop-i.invariant c.loop-i-test.false))
