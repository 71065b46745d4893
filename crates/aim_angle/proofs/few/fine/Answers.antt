use Rattle.std.proofs.Common.{ℕ, ℤ, ap, pos}
use Rattle.aim_tables.specs.Tables.{cos_t, sin_t}
use Rattle.aim_tables.specs.Rules.{cos_at, sin_at}
use Rattle.aim_angle.proofs.Values.{value}
use Rattle.aim_angle.proofs.few.fine.Goals as goal

pub returns : goal.returns
unfolding cos_t sin_t
returns c =
    let e = value (λ (b : ℕ). (cos_at b, sin_at b)) 32 c.args.b (pos 0, pos 0) c.requires in
    (ap (λ (p : ℤ × ℤ). p.0) e, ap (λ (p : ℤ × ℤ). p.1) e)
