use Rattle.std.proofs.Common.{sym, ap, ◌∙◌, true≢false}
use Rattle.num_vec2.specs.Vec2.{vnew}
use Rattle.test_common.proofs.vectors.is_point.Goals as goal

pub returns-then-is_float : goal.returns-then-is_float
returns-then-is_float c h =
    let p = c.args.p in
    ap (λ x. vnew x p.y) (c.is_float.ensures c.if-is_float.true) ∙ ap (vnew _) (c.is_float-then-is_float.ensures h)

pub returns-else-is_float : goal.returns-else-is_float
returns-else-is_float c h = absurd (true≢false (sym h ∙ c.if-is_float.false))
