-- What `tick` of lib.rs does to a character alone: ground, jump, walk and the last clamp. Definitions only.
use Rattle.std.specs.Prelude.{ℕ, Bool, true, false, cond, ◌||◌, List, Float}
use Rattle.std.specs.Float.{binary32}
use Rattle.std.specs.Float.Ieee.{neg, mul, lt, of_bits}
use Rattle.game_constants.specs.Constants.{max_velocity}
use Rattle.num_convert.specs.Number.{saturated_add}
use Rattle.num_vec2.specs.Vec2.{vnew, vadd, vmul, vlength, vnormalize}
use Rattle.num_vec2.specs.declared.vec2.{vec2}
use Rattle.game_input.specs.Direction.{as_float}
use Rattle.game_input.specs.declared.direction.MoveDirection.{MoveDirection}
use Rattle.game_input.specs.declared.direction.MoveDirection.TheVariants.{Left, None, Right}
use Rattle.map_corners.specs.Tile.{c14}
use Rattle.map_tiles.specs.Map.{check_point, solid}
use Rattle.map_tiles.specs.declared.tiles.Sides.{Sides}
use Rattle.game_tuning.specs.declared.Tuning.{Tuning}
use Rattle.character_motion.specs.declared.controls.Control.{Control}
use Rattle.character_motion.specs.declared.controls.JumpState.{JumpState}

-- 19.0: 5 below half of CHARACTER_SIZE
abbrev pub c19 : Float
c19 = of_bits binary32 0x4198_0000

-- whether there is a solid tile 5 below one of the lower corners
unfoldable pub grounded : Sides → List ℕ → vec2 → Bool
grounded s ts p = solid (check_point s ts (vadd p (vnew (neg c14) c19))) || solid (check_point s ts (vadd p (vnew c14 c19)))

-- speed, acceleration and friction of the ground or of the air
unfoldable pub control_of : Bool → Tuning → Control
control_of true t = record { max_speed = t.ground_control_speed; accel = t.ground_control_accel; friction = t.ground_friction }
control_of false t = record { max_speed = t.air_control_speed; accel = t.air_control_accel; friction = t.air_friction }

-- a button that is pressed anew jumps: from the ground, or from the air where the air jump is not used
unfoldable pub jump : JumpState → Bool → Bool → Tuning → JumpState
jump j pressed on_ground t =
    cond pressed
    (cond j.jumped_already j
    (cond on_ground (record { vel_y = neg t.ground_jump_impulse; jumped_already = true; used_airjump = j.used_airjump })
    (cond j.used_airjump (record { vel_y = j.vel_y; jumped_already = true; used_airjump = j.used_airjump })
    (record { vel_y = neg t.air_jump_impulse; jumped_already = true; used_airjump = true }))))
    (record { vel_y = j.vel_y; jumped_already = false; used_airjump = j.used_airjump })

-- on the ground the air jump is not used
unfoldable pub landed : Bool → Bool → Bool
landed on_ground used = cond on_ground false used

-- friction where there is no direction
abbrev pub slowed : MoveDirection → Float → Float → Float
slowed Left v f = v
slowed None v f = mul binary32 v f
slowed Right v f = v

-- the velocity sideways
unfoldable pub walk : Float → MoveDirection → Control → Float
walk v d c = slowed d (saturated_add (neg c.max_speed) c.max_speed v (mul binary32 (as_float d) c.accel)) c.friction

-- a velocity of at most 6,000
unfoldable pub clamp_speed : vec2 → vec2
clamp_speed v = cond (lt max_velocity (vlength v)) (vmul (vnormalize v) max_velocity) v
