use Rattle.std.proofs.Common.{◌-◌, ◌*◌, length, drop, ◌∙◌, arith, length-drop, take_all, le-ltb, lt-ltb}
use Rattle.test_common.specs.Words.{words_from}
use Rattle.test_common.proofs.vectors.after.Goals as goal

pub returns-then-k-words : goal.returns-then-k-words
unfolding words_from
returns-then-k-words c =
    let a = c.args in
    let rest = drop (a.k * 9) a.words.now in
    take_all (length a.words.now - a.k * 9) rest (omega (arith, length-drop (a.k * 9) a.words.now)) ∙ simp (lt-ltb _ _ c.if-k-words.true)

pub returns : goal.returns
unfolding words_from
returns c = simp (le-ltb _ _ c.if-k-words.false)
