-- How an attached hook pulls, in `tick` of lib.rs. Definitions only.
use Rattle.std.specs.Prelude.{cond, Float}
use Rattle.std.specs.Float.{binary32}
use Rattle.std.specs.Float.Ieee.{mul, lt, of_bits}
use Rattle.game_constants.specs.Constants.{disable_hook_distance}
use Rattle.num_convert.specs.Number.{c0, c0_75}
use Rattle.num_vec2.specs.Vec2.{vnew, vadd, vsub, vmul, vlength, vnormalize, vdistance}
use Rattle.num_vec2.specs.declared.vec2.{vec2}
use Rattle.game_input.specs.Direction.{as_float}
use Rattle.game_input.specs.declared.direction.MoveDirection.{MoveDirection}
use Rattle.character_hook.specs.Hook.{on_attached}
use Rattle.character_hook.specs.declared.hook.Hook.{Hook}
use Rattle.game_tuning.specs.declared.Tuning.{Tuning}

-- 0.3 and 0.95
abbrev pub c0_3 : Float
c0_3 = of_bits binary32 0x3e99_999a

abbrev pub c0_95 : Float
c0_95 = of_bits binary32 0x3f73_3333

-- downwards a hook has 30 % of its power
unfoldable pub lifted : vec2 → vec2
lifted v = cond (lt c0 v.y) (vnew v.x (mul binary32 v.y c0_3)) v

-- in the direction that is wanted it has more than against it
unfoldable pub helped : vec2 → MoveDirection → vec2
helped v d = cond (lt c0 (mul binary32 v.x (as_float d))) (vnew (mul binary32 v.x c0_95) v.y) (vnew (mul binary32 v.x c0_75) v.y)

-- the pull of an attached hook
unfoldable pub hook_vel : vec2 → vec2 → MoveDirection → Tuning → vec2
hook_vel p q d t = helped (lifted (vmul (vnormalize (vsub q p)) t.hook_drag_accel)) d

-- the velocity that it drags to: where it is far enough, and below the limit or slowing down
unfoldable pub drag : vec2 → vec2 → vec2 → MoveDirection → Tuning → vec2
drag p v q d t =
    let new = vadd v (hook_vel p q d t) in
    cond (lt disable_hook_distance (vdistance q p))
    (cond (lt (vlength new) t.hook_drag_speed) new (cond (lt (vlength new) (vlength v)) new v))
    v

-- an attached hook drags, no other
unfoldable pub dragged : Hook → vec2 → vec2 → MoveDirection → Tuning → vec2
dragged h p v d t = on_attached (λ q. drag p v q d t) v h
