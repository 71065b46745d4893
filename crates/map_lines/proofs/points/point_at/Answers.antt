use Prim.Native.Nat.{◌^◌}
use native.Mathlib.Omega.{arith}
use lib.Dec.{le→leb}
use lib.Ieee.{in_float}
use borrow.Author.Rules.{rules}
use Rattle.num_convert.specs.Convert.{i32_to_f32}
use Rattle.map_lines.proofs.points.point_at.Goals as goal

pub int_to_float-i : goal.int_to_float-i
unfolding in_float
int_to_float-i c = le→leb c.args.i (2 ^ 24) (omega arith)

pub returns : goal.returns
unfolding i32_to_f32
returns c = c.mix.ensures
