-- `Character::spawn` of lib.rs, and a character with another hook or velocity. Definitions only.
use Rattle.std.specs.Prelude.{false, pos}
use Rattle.character_hook.specs.declared.hook.Hook.{Hook}
use Rattle.character_hook.specs.declared.hook.Hook.TheVariants.{Idle}
use Rattle.character.specs.declared.Character.{Character}
use Rattle.game_input.specs.declared.direction.MoveDirection.TheVariants.{None}
use Rattle.num_convert.specs.Number.{c0}
use Rattle.num_vec2.specs.Vec2.{vnew}
use Rattle.num_vec2.specs.declared.vec2.{vec2}

-- at rest at p, with nothing held and nothing pressed
unfoldable pub spawn : vec2 → Character
spawn p = record { pos = p; vel = vnew c0 c0; hook = Idle; jumped_already = false; used_airjump = false; angle = record { radians = c0 }; move_direction = None }

-- c with another hook
abbrev pub with_hook : Character → Hook → Character
with_hook c h = record { pos = c.pos; vel = c.vel; hook = h; jumped_already = c.jumped_already; used_airjump = c.used_airjump; angle = c.angle; move_direction = c.move_direction }

-- c with another velocity
abbrev pub with_vel : Character → vec2 → Character
with_vel c v = record { pos = c.pos; vel = v; hook = c.hook; jumped_already = c.jumped_already; used_airjump = c.used_airjump; angle = c.angle; move_direction = c.move_direction }
