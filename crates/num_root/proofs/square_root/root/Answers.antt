use mathlib.Core.Path.{sym, ap, ◌∙◌, subst}
use native.Mathlib.Nat.{le_of_lt}
use lib.Dec.{T}
use lib.Ieee.{binary32, fits, of_bits, div}
use lib.Ieee.Bits.{of_bits-to_bits}
use Rattle.num_root.specs.Root.{root}
use Rattle.base_binary32.proofs.Nans.{above_no_nan, pattern_no_nan}
use Rattle.num_root.proofs.Branches.{positive_pattern, at_infinity, at_zero, elsewhere}
use Rattle.num_root.proofs.square_root.root.Goals.{Start}
use Rattle.num_root.proofs.square_root.root.Goals as goal

-- the format holds x
held : (c : Start) → T (fits binary32 c.args.x)
held c = subst T (sym c.well_formed.0.1) tt

pub float_to_bits-b : goal.float_to_bits-b
float_to_bits-b c = above_no_nan _ _ c.if-x.true

pub root_bits-requires : goal.root_bits-requires
root_bits-requires c = (positive_pattern _ (held c.before.before) c.before.if-x.true, c.if-b-lt2139095040.true)

pub float_from_bits-result : goal.float_from_bits-result
float_from_bits-result c = pattern_no_nan binary32 _ (le_of_lt c.root_bits.ensures.0)

pub returns-then-b-lt2139095040 : goal.returns-then-b-lt2139095040
returns-then-b-lt2139095040 c = let s = c.before.before.before in c.root_bits.ensures.1 ∙ ap (root binary32) (of_bits-to_bits binary32 s.args.x (held s))

pub returns-else-b-lt2139095040 : goal.returns-else-b-lt2139095040
returns-else-b-lt2139095040 c = at_infinity _ (held c.before.before) c.before.if-x.true c.if-b-lt2139095040.false

pub returns-then-x-2 : goal.returns-then-x-2
returns-then-x-2 c = at_zero _ c.if-x-2.true

pub returns-else-x-2 : goal.returns-else-x-2
unfolding div of_bits
returns-else-x-2 c = elsewhere _ c.before.if-x.false c.if-x-2.false
