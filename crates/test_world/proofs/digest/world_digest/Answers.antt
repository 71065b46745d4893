use mathlib.Core.Path.{ap, ◌∙◌}
use Rattle.test_common.specs.Digest.{digest_of}
use borrow.Author.Rules.{rules}
use Rattle.test_world.proofs.digest.world_digest.Goals as goal

pub returns : goal.returns
returns c = c.digest.ensures ∙ ap digest_of c.encode.ensures
