-- What a meeting does to a velocity in `tick` of lib.rs, and what a hook does to the one that it holds. Definitions only.
use Rattle.std.specs.Prelude.{ℕ, Bool, cond, ◌&&◌, eqb, Float, Option, Some, None}
use Rattle.std.specs.Float.{binary32}
use Rattle.std.specs.Float.Ieee.{neg, add, sub, mul, div, lt, le, ne, of_bits}
use Rattle.num_convert.specs.Number.{c0, c1, saturated_add, c1_5, c0_75}
use Rattle.game_constants.specs.Constants.{character_size}
use Rattle.num_vec2.specs.Vec2.{vnew, vadd, vsub, vmul, vlength, vnormalize, vdistance, vdot}
use Rattle.num_vec2.specs.declared.vec2.{vec2}
use Rattle.character_hook.specs.Hook.{on_grabbed}
use Rattle.character_hook.specs.declared.hook.CharacterId.{CharacterId}
use Rattle.character_hook.specs.declared.hook.Hook.{Hook}
use Rattle.game_tuning.specs.declared.Tuning.{Tuning}
use Rattle.character_meeting.specs.declared.meeting.HookPull.{HookPull}

-- CHARACTER_SIZE times 1.25, and 1.45
abbrev pub c35 : Float
c35 = of_bits binary32 0x420c_0000

abbrev pub c1_45 : Float
c1_45 = of_bits binary32 0x3fb9_999a

-- the square of 35
abbrev pub c1225 : Float
c1225 = of_bits binary32 0x4499_2000

-- CHARACTER_SIZE times 1.5
abbrev pub c42 : Float
c42 = of_bits binary32 0x4228_0000

-- 0.25
abbrev pub c0_25 : Float
c0_25 = of_bits binary32 0x3e80_0000

-- 0.0001, 0.5, 0.85 and 2.0
abbrev pub c0_0001 : Float
c0_0001 = of_bits binary32 0x38d1_b717

abbrev pub c0_5 : Float
c0_5 = of_bits binary32 0x3f00_0000

abbrev pub c0_85 : Float
c0_85 = of_bits binary32 0x3f59_999a

abbrev pub c2 : Float
c2 = of_bits binary32 0x4000_0000

-- from 0 for a velocity straight away from the other to 1 for one straight towards it, a half for none
unfoldable pub additional_vel : vec2 → vec2 → Float
additional_vel v d = cond (lt c0_0001 (vlength v)) (sub binary32 c1 (div binary32 (add binary32 (vdot (vnormalize v) d) c1) c2)) c0_5

-- pushed away from the other, and slowed down
unfoldable pub pushed : vec2 → vec2 → vec2 → Float → vec2
pushed p v q distance =
    let d = vnormalize (vsub p q) in
    let factor = sub binary32 (mul binary32 character_size c1_45) distance in
    vmul (vadd v (vmul (vmul (vmul d factor) (additional_vel v d)) c0_75)) c0_85

-- too far for a push, by the square of the distance
unfoldable pub is_beyond : vec2 → vec2 → Bool
is_beyond p q = let way = vsub q p in le c1225 (vdot way way)

-- where players collide and the other is near, but not in the same place
unfoldable pub push : vec2 → vec2 → vec2 → Float → Float → vec2
push p v q distance collision = cond (ne collision c0) (cond (lt distance c35) (cond (lt c0 distance) (pushed p v q distance) v) v) v

-- each coordinate along d, saturated at the speed
unfoldable pub pull : vec2 → Float → vec2 → Float → Float → vec2
pull v accel d factor speed =
    vnew (saturated_add (neg speed) speed v.x (mul binary32 (mul binary32 accel d.x) factor))
    (saturated_add (neg speed) speed v.y (mul binary32 (mul binary32 accel d.y) factor))

-- a hook drags by the distance
unfoldable pub drag_accel : Float → Tuning → Float
drag_accel distance t = div binary32 (mul binary32 t.hook_drag_accel distance) t.hook_length

-- the hook of a character at p pulls the one that it holds, at q with the velocity u
unfoldable pub pulled : vec2 → vec2 → vec2 → Float → Tuning → vec2
pulled p q u distance t = pull u (drag_accel distance t) (vnormalize (vsub p q)) c1_5 t.hook_drag_speed

-- and a sixth as strongly its own character, the other way
unfoldable pub dragged : vec2 → vec2 → vec2 → Float → Tuning → vec2
dragged p v q distance t = pull v (neg (drag_accel distance t)) (vnormalize (vsub p q)) c0_25 t.hook_drag_speed

-- where players can be hooked, and the two are not too near
unfoldable pub drags : Float → Tuning → Bool
drags distance t = ne t.player_hooking c0 && lt c42 distance

-- what a hook does to the character cid, which it holds
unfoldable pub pull_on : vec2 → CharacterId → vec2 → vec2 → Tuning → Option HookPull
pull_on p cid q u t = let distance = vdistance p q in cond (drags distance t) (Some (record { cid = cid; vel = pulled p q u distance t })) None

-- and what it does to its own character
unfoldable pub held : vec2 → vec2 → vec2 → Tuning → vec2
held p v q t = let distance = vdistance p q in cond (drags distance t) (dragged p v q distance t) v

-- the hook holds the character cid, or not
abbrev pub drag_if : vec2 → vec2 → vec2 → Tuning → CharacterId → CharacterId → ℕ → vec2
drag_if p v q t cid hooked ticks = cond (eqb hooked.0 cid.0) (held p v q t) v

-- p, v and the hook are of the character that ticks, q of the character cid: the own velocity after a collision, then the drag
unfoldable pub meet : vec2 → vec2 → Hook → vec2 → CharacterId → Tuning → vec2
meet p v h q cid t = let w = push p v q (vdistance p q) t.player_collision in on_grabbed (drag_if p w q t cid) w h
