use Rattle.std.proofs.Common.{ℕ, set, sym, refl, ap, ◌∙◌, arith, length-set, to_z-of_z, w32}
use Rattle.base_turns.specs.Turns.{fold, more}
use Rattle.base_turns.proofs.Loop.{fold_first, turn_on, fold_end}
use Rattle.num_convert.specs.Casts.{cast_signed}
use Rattle.test_common.specs.Words.{number_turn, numbers_in}
use Rattle.test_common.proofs.numbers.read_numbers.Goals as goal

pub loop-i-init : goal.loop-i-init
loop-i-init c = (fold_first, refl, refl)

pub nth-requires : goal.nth-requires
nth-requires c = tt

pub cast_signed-requires : goal.cast_signed-requires
cast_signed-requires c = tt

pub overflow_step-i : goal.overflow_step-i
overflow_step-i c = omega arith

pub loop-i-smaller : goal.loop-i-smaller
loop-i-smaller c = omega arith

pub loop-i-preserved : goal.loop-i-preserved
loop-i-preserved c =
    let l = c.loop-i in
    let s = c.cast_signed in
    let e = to_z-of_z {w = w32} {z = s.result} (record { sfits = s.type_inv }) ∙ s.ensures ∙ ap cast_signed c.nth.ensures in
    (turn_on l.invariant.0 c.loop-i-test.true (ap more (ap (set l.numbers l.i) (sym e))), simp length-set l.invariant.1, l.invariant.2)

pub returns : goal.returns
unfolding numbers_in
returns c =
    let a = c.args in
    sym (fold_end c.loop-i.invariant.0 c.loop-i-test.false) ∙ ap (λ (n : ℕ). fold (number_turn a.words.now) n 0 a.numbers.now) c.loop-i.invariant.2
