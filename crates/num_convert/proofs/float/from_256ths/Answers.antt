use Rattle.std.proofs.Common.{ap, ◌∙◌, to_z-of_z, w32, rules}
use lib.Ieee.{Float, binary32, div}
use Rattle.num_convert.specs.Convert.{c256, i32_to_f32, from256ths}
use Rattle.num_convert.proofs.float.from_256ths.Goals as goal

pub returns : goal.returns
unfolding from256ths
returns c = ap (λ (y : Float). div binary32 y c256) (c.i32_to_f32.ensures ∙ ap i32_to_f32 (to_z-of_z {w = w32} (search rules)))
