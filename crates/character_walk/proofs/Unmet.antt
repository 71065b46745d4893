-- Whoever is 28 or more to one side of both ends of a hook's way, in a coordinate, is not met on it. Assumes nothing.
use mathlib.Core.Path.{◌≡◌, refl, ap, ◌∙◌}
use mathlib.Core.Bool.{Bool, false, cond}
use lib.Ieee.{Float, binary32, div, lt}
use Rattle.num_convert.specs.Number.{c0, c1, clamp}
use Rattle.num_vec2.specs.Vec2.{vsub, vlength, vnormalize, vdistance, vdot, vmix, closest_point_on_line}
use Rattle.num_vec2.specs.declared.vec2.{vec2}
use Rattle.num_order.proofs.Clamped.{clamp_factor}
use Rattle.num_order.proofs.Symmetric.{distance_symmetric}
use Rattle.num_order.proofs.Vectors.{FitsPair}
use Rattle.game_constants.specs.Constants.{character_size}
use Rattle.character_hook.specs.Hooking.{closer, nearer}
use Rattle.character_hook.specs.declared.hook.CharacterId.{CharacterId}
use Rattle.character_hook.specs.declared.hooking.Nearest.{Nearest}
use Rattle.std.specs.Prelude.{Option}
use Rattle.character_walk.proofs.Mixed.{Away, mixed-apart}

module _ (q from to : vec2) (t : FitsPair from) (k : Away from to q) where
  -- how far along the way its closest point is, before that is clamped
  abbrev along : Float
  along = div binary32 (vdot (vnormalize (vsub to from)) (vsub q from)) (vlength (vsub to from))

  closest_is : closest_point_on_line q from to ≡ vmix from to (clamp along c0 c1)
  unfolding closest_point_on_line
  closest_is = refl

  closest_apart : lt (vdistance q (closest_point_on_line q from to)) character_size ≡ false
  closest_apart =
      ap (λ (d : Float). lt d character_size) (distance_symmetric q (closest_point_on_line q from to) ∙ ap (λ (p : vec2). vdistance p q) closest_is)
      ∙ mixed-apart from to q (clamp along c0 c1) (clamp_factor along) t k

  pub unmet : (best : Option Nearest) (cid : CharacterId) → nearer best cid q from to ≡ best
  unfolding nearer
  unmet best cid = ap (λ (b : Bool). cond b (closer best cid (vdistance from q)) best) closest_apart
