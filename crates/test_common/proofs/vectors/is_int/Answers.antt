use Rattle.std.proofs.Common.{T, sym, ap, ◌∙◌, subst, eqb→eq, to_z-of_z, w32, to_z, of_z}
use Rattle.test_common.proofs.vectors.is_int.Goals as goal

pub returns : goal.returns
returns c h =
    sym (to_z-of_z {w = w32} c.ranges.n)
    ∙ ap (to_z w32) (eqb→eq (of_z w32 c.args.n) (of_z w32 c.cast_signed.result) (subst T (sym h) tt))
    ∙ to_z-of_z {w = w32} (record { sfits = c.cast_signed.type_inv })
    ∙ c.cast_signed.ensures
