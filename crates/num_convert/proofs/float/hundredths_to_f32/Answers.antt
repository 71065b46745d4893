use Rattle.std.proofs.Common.{ap, ◌∙◌, to_z-of_z, w32, rules}
use lib.Ieee.{Float, binary32, div}
use Rattle.num_convert.specs.Convert.{c100, i32_to_f32, hundredths_to_f32}
use Rattle.num_convert.proofs.float.hundredths_to_f32.Goals as goal

pub returns : goal.returns
unfolding hundredths_to_f32
returns c = ap (λ (y : Float). div binary32 y c100) (c.i32_to_f32.ensures ∙ ap i32_to_f32 (to_z-of_z {w = w32} (search rules)))
