use Rattle.std.proofs.Common.{pos, sym, refl, ap, ◌∙◌, to_z-of_z, w32, rules, le-ltb, lt-ltb}
use Rattle.test_common.specs.Digest.{mixed, first_turn, mixed_first}
use Rattle.base_turns.specs.Turns.{more}
use Rattle.base_turns.proofs.Loop.{fold_first, turn_on}
use Rattle.test_common.proofs.Ends.{fold_over, among, same_at, behind}
use Rattle.test_common.proofs.digests.mix_first.Goals as goal

pub loop-number-init : goal.loop-number-init
loop-number-init c = fold_first

pub loop-number-preserved : goal.loop-number-preserved
loop-number-preserved c =
    let l = c.loop-number in
    let f = c.first-number-items in
    let i = among c.args.count c.args.numbers.now f.result.now f.ensures l.number-index c.loop-number-test.true in
    let e = c.mix-sum.ensures ∙ ap (mixed l.sum) (to_z-of_z {w = w32} (search rules) ∙ same_at c.args.count c.args.numbers.now f.result.now f.ensures l.number-index (pos 0) c.loop-number-test.true) in
    turn_on l.invariant i.1 (rw (lt-ltb l.number-index c.args.count i.0) (ap more (sym e)))

pub returns : goal.returns
unfolding mixed_first
returns c =
    let l = c.loop-number in
    let f = c.first-number-items in
    sym (fold_over (first_turn c.args.count c.args.numbers.now) _ l.number-index l.sum _ l.invariant (λ k a b. rw (le-ltb k c.args.count (behind c.args.count c.args.numbers.now f.result.now f.ensures l.number-index k c.loop-number-test.false a b)) refl))
