use Rattle.std.proofs.Common.{ap, ◌∙◌}
use Rattle.test_common.specs.Words.{word_of, word_at}
use Rattle.test_common.proofs.vectors.nth.Goals as goal

pub returns : goal.returns
unfolding word_at
returns c = c.word.ensures ∙ ap word_of c.after.ensures
