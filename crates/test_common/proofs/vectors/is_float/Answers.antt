use Rattle.std.proofs.Common.{T, sym, ap, ◌∙◌, subst, eqb→eq, ltb→lt}
use lib.Ieee.{binary32, fits, of_bits}
use lib.Ieee.Bits.{of_bits-to_bits}
use Rattle.base_binary32.proofs.Nans.{equal_no_nan, unequal_nan, body_nan}
use Rattle.test_common.proofs.vectors.is_float.Goals.{Start}
use Rattle.test_common.proofs.vectors.is_float.Goals as goal

-- the format holds x
held : (c : Start) → T (fits binary32 c.args.x)
held c = subst T (sym c.well_formed.0.1) tt

pub float_to_bits-result : goal.float_to_bits-result
float_to_bits-result c = equal_no_nan c.args.x c.if-x.false

pub returns-then-x : goal.returns-then-x
returns-then-x c h = let s = c in unequal_nan s.args.x c.if-x.true ∙ sym (body_nan binary32 s.args.pattern (ltb→lt _ _ (subst T (sym h) tt)))

pub returns-else-x : goal.returns-else-x
returns-else-x c h = let s = c.before in sym (of_bits-to_bits binary32 s.args.x (held s)) ∙ ap (of_bits binary32) (eqb→eq _ _ (subst T (sym h) tt))
