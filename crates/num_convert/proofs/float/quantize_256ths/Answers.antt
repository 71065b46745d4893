use Rattle.std.proofs.Common.{ap, ◌∙◌, to_z-of_z, w32, rules}
use Rattle.num_convert.specs.Convert.{from256ths, quantize256ths}
use Rattle.num_convert.proofs.float.quantize_256ths.Goals as goal

pub returns : goal.returns
unfolding quantize256ths
returns c = c.from_256ths.ensures ∙ ap from256ths (to_z-of_z {w = w32} (search rules) ∙ c.before.to_256ths.ensures)
