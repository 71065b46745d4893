use Rattle.std.proofs.Common.{sym, ap, ◌∙◌, to_z-of_z, w32, rules}
use Rattle.base_turns.specs.Turns.{more}
use Rattle.base_turns.proofs.Loop.{fold_first, turn_on, fold_end}
use Rattle.test_common.specs.Digest.{mixed, digest_of}
use Rattle.test_common.proofs.digests.digest.Goals as goal

pub loop-number-init : goal.loop-number-init
loop-number-init c = fold_first

pub loop-number-preserved : goal.loop-number-preserved
loop-number-preserved c =
    let l = c.loop-number in
    turn_on l.invariant c.loop-number-test.true (ap more (sym (c.mix-sum.ensures ∙ ap (mixed l.sum) (to_z-of_z {w = w32} (search rules)))))

pub returns : goal.returns
unfolding digest_of
returns c = sym (fold_end c.loop-number.invariant c.loop-number-test.false)
