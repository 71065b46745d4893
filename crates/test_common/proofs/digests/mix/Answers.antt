use Rattle.std.proofs.Common.{ℕ, ◌+◌, ◌*◌, ◌%◌, ap, ◌∙◌, to_z-of_z}
use Rattle.num_convert.specs.Casts.{cast_unsigned}
use Rattle.test_common.proofs.digests.mix.Goals as goal

pub returns : goal.returns
returns c =
    let e = c.cast_unsigned-word.ensures ∙ ap cast_unsigned (to_z-of_z c.ranges.number) in
    ap (λ (w : ℕ). (c.args.digest * 16777619 + w) % 4294967291) e
