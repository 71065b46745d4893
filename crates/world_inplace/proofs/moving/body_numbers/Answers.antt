use mathlib.Core.Path.{refl}
use Rattle.num_convert.proofs.Signed.{held}
use borrow.Author.Rules.{rules}
use Rattle.world_inplace.specs.Bodies.{body_numbers}
use Rattle.world_inplace.proofs.moving.body_numbers.Goals as goal

pub returns : goal.returns
unfolding body_numbers
returns c = rw (
  held c.round_to_i32.result c.round_to_i32.type_inv c.round_to_i32.ensures,
  held c.round_to_i32-2.result c.round_to_i32-2.type_inv c.round_to_i32-2.ensures,
  held c.to_256ths.result c.to_256ths.type_inv c.to_256ths.ensures,
  held c.to_256ths-2.result c.to_256ths-2.type_inv c.to_256ths-2.ensures,
) refl
