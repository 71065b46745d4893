use mathlib.Core.Bool.{Bool, true, false, cond}
use Rattle.std.proofs.Common.{◌≡◌, refl, ap, ◌∙◌}
use mir.Val.{bool_byte}
use Rattle.map_totals.specs.Area.{solid_at}
use Rattle.map_area.proofs.building.solid_at.Goals as goal

as_number : (b : Bool) → bool_byte b ≡ cond b 1 0
as_number true = refl
as_number false = refl

pub returns : goal.returns
unfolding solid_at
returns c = as_number c.is_solid_at.result ∙ ap (λ (b : Bool). cond b 1 0) c.is_solid_at.ensures
