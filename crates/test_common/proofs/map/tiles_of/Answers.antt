use Rattle.std.proofs.Common.{ap, ◌∙◌}
use Rattle.test_common.specs.Words.{tiles_of}
use Rattle.test_common.proofs.map.tiles_of.Goals as goal

pub returns : goal.returns
returns c = c.tiles_from.ensures ∙ ap tiles_of c.rest.ensures
