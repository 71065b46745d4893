use Rattle.std.proofs.Common.{ap, ◌∙◌, to_z-of_z, w32, rules}
use Rattle.num_convert.specs.Convert.{i32_to_f32, quantize}
use Rattle.num_convert.proofs.float.quantize.Goals as goal

pub returns : goal.returns
unfolding quantize
returns c = c.i32_to_f32.ensures ∙ ap i32_to_f32 (to_z-of_z {w = w32} (search rules) ∙ c.before.round_to_i32.ensures)
