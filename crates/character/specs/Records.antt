-- `to_net`, `from_net` and `quantize` of lib.rs: a character as a record, and back. Definitions only.
use Rattle.std.specs.Prelude.{Bool, cond, ℕ, ◌+◌, ◌/◌, ◌%◌, leb, eqb, ℤ, pos}
use Rattle.num_convert.specs.Casts.{cast_unsigned}
use Rattle.character.specs.declared.Character.{Character}
use Rattle.game_input.specs.Direction.{from_int, as_int, angle_to_net, angle_from_net}
use Rattle.num_convert.specs.Convert.{i32_to_f32, to256ths, from256ths}
use Rattle.character_hook.specs.Hook.{net_state, net_pos, net_dir, tick_of, net_hooked_player, hook_from_net}
use Rattle.game_records.specs.declared.CharacterCore.{CharacterCore}
use Rattle.game_refusals.specs.Refusals.{tick_too_large}
use Rattle.num_vec2.specs.Vec2.{vnew}
use Rattle.num_convert.specs.Whole.{round_to_i32}
use Rattle.std.specs.Prelude.{Result, Ok, Err}
use Rattle.game_refusals.specs.declared.Refusal.{Refusal}
use Rattle.game_refusals.specs.declared.Refusal.TheVariants.{TickTooLarge}
use Rattle.game_refusals.specs.Refusals.{number_of_answer}

-- bit 1: the air jump is used; bit 0: the jump button is still held
unfoldable pub net_jumped : Character → ℤ
net_jumped c = pos (cond c.used_airjump 2 0 + cond c.jumped_already 1 0)

unfoldable pub used_airjump_from_net : ℤ → Bool
used_airjump_from_net z = eqb (cast_unsigned z / 2 % 2) 1

unfoldable pub jumped_already_from_net : ℤ → Bool
jumped_already_from_net z = eqb (cast_unsigned z % 2) 1

-- the record: positions to whole numbers, velocity and hook direction to 256ths, the angle cut to 256ths
unfoldable pub core_of : Character → CharacterCore
core_of c = record {
  tick = pos 0;
  x = round_to_i32 c.pos.x;
  y = round_to_i32 c.pos.y;
  vel_x = to256ths c.vel.x;
  vel_y = to256ths c.vel.y;
  angle = angle_to_net c.angle;
  direction = as_int c.move_direction;
  jumped = net_jumped c;
  hooked_player = net_hooked_player c.hook;
  hook_state = net_state c.hook;
  hook_tick = record { 0 = pos (tick_of c.hook) };
  hook_x = round_to_i32 (net_pos c.hook).x;
  hook_y = round_to_i32 (net_pos c.hook).y;
  hook_dx = to256ths (net_dir c.hook).x;
  hook_dy = to256ths (net_dir c.hook).y;
}

-- the largest tick that a record holds
abbrev pub most_tick : ℕ
most_tick = 2147483647

-- refused with 10 where the tick of a held player is above it
unfoldable pub to_net : Character → Result CharacterCore Refusal
to_net c = cond (leb (tick_of c.hook) most_tick) (Ok (core_of c)) (Err TickTooLarge)

-- a record as a character
unfoldable pub from_net : CharacterCore → Character
from_net n = record {
  pos = vnew (i32_to_f32 n.x) (i32_to_f32 n.y);
  vel = vnew (from256ths n.vel_x) (from256ths n.vel_y);
  hook = hook_from_net n.hook_state (vnew (i32_to_f32 n.hook_x) (i32_to_f32 n.hook_y)) (vnew (from256ths n.hook_dx) (from256ths n.hook_dy)) n.hooked_player n.hook_tick;
  jumped_already = jumped_already_from_net n.jumped;
  used_airjump = used_airjump_from_net n.jumped;
  angle = angle_from_net n.angle;
  move_direction = from_int n.direction;
}

-- into a record and back
abbrev pub back : Result CharacterCore Refusal → Result Character Refusal
back (Err e) = Err e
back (Ok n) = Ok (from_net n)

unfoldable pub quantize : Character → Result Character Refusal
quantize c = back (to_net c)
