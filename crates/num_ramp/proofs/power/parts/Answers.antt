use Rattle.std.proofs.Common.{T, ◌∙◌}
use lib.Ieee.{binary32, of_bits, fits}
use denote.Floats.{passes}
use Rattle.num_ramp.proofs.Exact.{none, sized, sized_fits, under, over}
use Rattle.num_ramp.proofs.power.parts.Goals as goal

pub returns-then-e : goal.returns-then-e
unfolding of_bits
returns-then-e c = none c.args.e c.if-e.true

pub truncating_f32_to_u64-requires : goal.truncating_f32_to_u64-requires
unfolding of_bits
truncating_f32_to_u64-requires c =
    let e = c.args.e in
    let a = c.abs-size.result in
    let d = c.abs-size.ensures.value in
    let t : T (fits binary32 e) = passes (fits binary32 e) c.well_formed.0.1 in
    let u = under a (sized_fits e a d t) (sized e a d c.requires c.if-e.false).0 c.if-size.true in
    record { lower_bound = u.0; upper_bound = u.1 }

pub returns-then-size : goal.returns-then-size
unfolding of_bits
returns-then-size c =
    let e = c.args.e in
    let a = c.abs-size.result in
    let d = c.abs-size.ensures.value in
    let t : T (fits binary32 e) = passes (fits binary32 e) c.well_formed.0.1 in
    let z = sized e a d c.requires c.if-e.false in
    let u = under a (sized_fits e a d t) z.0 c.if-size.true in
    c.truncating_f32_to_u64.ensures ∙ u.2 ∙ z.1

pub returns-else-size : goal.returns-else-size
unfolding of_bits
returns-else-size c =
    let z = sized c.args.e c.abs-size.result c.abs-size.ensures.value c.requires c.if-e.false in
    over c.abs-size.result z.0 c.if-size.false ∙ z.1
