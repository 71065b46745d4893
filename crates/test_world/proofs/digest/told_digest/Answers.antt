use mathlib.Core.Path.{ap, ◌∙◌}
use Rattle.test_common.specs.Digest.{mixed_first, digest_of}
use borrow.Author.Rules.{rules}
use Rattle.test_world.proofs.digest.told_digest.Goals as goal

pub returns : goal.returns
returns c =
    let r = c.args.removed in
    c.mix_first.ensures ∙ ap (mixed_first r.count r.ids) (c.digest.ensures ∙ ap digest_of c.encode_records.ensures)
