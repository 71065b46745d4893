use Rattle.std.proofs.Common.{ℕ, ◌+◌, ◌*◌, ◌%◌, ◌^◌, sym, refl, ap, ◌∙◌, le-ltb, lt-ltb}
use Rattle.test_common.specs.Words.{hex_of, digit_turn, word_of}
use Rattle.base_turns.specs.Turns.{more}
use Rattle.base_turns.proofs.Loop.{fold_first, turn_on}
use Rattle.test_common.proofs.Ends.{fold_over, among, same_at, behind_end}
use Rattle.test_common.proofs.vectors.word.Goals as goal

pub loop-digit-init : goal.loop-digit-init
loop-digit-init c = fold_first

pub loop-digit-preserved : goal.loop-digit-preserved
loop-digit-preserved c =
    let l = c.loop-digit in
    let f = c.first-digit-items in
    let i = among 8 c.args.text.now f.result.now f.ensures l.digit-index c.loop-digit-test.true in
    let e = c.hex.ensures.0 ∙ ap hex_of (same_at 8 c.args.text.now f.result.now f.ensures l.digit-index 0 c.loop-digit-test.true) in
    turn_on l.invariant i.0 (rw (lt-ltb l.digit-index _ i.1) (ap (λ (d : ℕ). more (l.value % 2 ^ 28 * 16 + d)) (sym e)))

pub returns : goal.returns
unfolding word_of
returns c =
    let l = c.loop-digit in
    let f = c.first-digit-items in
    sym (fold_over (digit_turn c.args.text.now) 8 l.digit-index l.value _ l.invariant (λ k a b. rw (le-ltb k _ (behind_end 8 c.args.text.now f.result.now f.ensures l.digit-index k c.loop-digit-test.false a b)) refl))
