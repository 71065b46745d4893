-- What `tick` of lib.rs reads from a player's input. Definitions only.
use Rattle.std.specs.Prelude.{Bool, true, not, eqb, ℤ, pos, negsuc}
use Rattle.num_convert.specs.Convert.{i32_to_f32}
use Rattle.num_vec2.specs.Vec2.{vnew, vnormalize}
use Rattle.num_vec2.specs.declared.vec2.{vec2}
use Rattle.game_input.specs.Direction.{from_int, angle_from_net}
use Rattle.game_input.specs.declared.direction.Angle.{Angle}
use Rattle.game_input.specs.declared.direction.MoveDirection.{MoveDirection}
use Rattle.aim_rule.specs.Angle.{net_angle}
use Rattle.game_records.specs.declared.PlayerInput.{PlayerInput}

-- the direction by its sign
unfoldable pub move_direction : PlayerInput → MoveDirection
move_direction i = from_int i.direction

-- the target, divided by its length
unfoldable pub target_dir : PlayerInput → vec2
target_dir i = vnormalize (vnew (i32_to_f32 i.target_x) (i32_to_f32 i.target_y))

-- the net angle of the target, over 256
unfoldable pub aim : PlayerInput → Angle
aim i = angle_from_net (net_angle i.target_x i.target_y)

-- whether z is not 0
abbrev pub pressed : ℤ → Bool
pressed (pos n) = not (eqb n 0)
pressed (negsuc n) = true

-- any value but 0 is a press
unfoldable pub jumps : PlayerInput → Bool
jumps i = pressed i.jump

unfoldable pub hooks : PlayerInput → Bool
hooks i = pressed i.hook
