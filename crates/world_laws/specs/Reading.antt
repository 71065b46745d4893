-- A record as a character: what each of its numbers says, and which say nothing. Definitions only; proofs/Reading.antt proves it.
use Rattle.std.specs.Prelude.{◌/◌, ◌%◌, ◌⊎◌, ◌≡◌, eqb, Float, ℤ, pos, negsuc, ◌≤ℤ◌}
use Rattle.std.specs.Float.{binary32}
use Rattle.std.specs.Float.Ieee.{div}
use Rattle.num_convert.specs.Casts.{cast_unsigned}
use Rattle.num_convert.specs.Convert.{c256, i32_to_f32}
use Rattle.num_vec2.specs.Vec2.{vnew}
use Rattle.num_vec2.specs.declared.vec2.{vec2}
use Rattle.game_input.specs.declared.direction.MoveDirection.TheVariants.{Left, None, Right}
use Rattle.game_records.specs.declared.CharacterCore.{CharacterCore}
use Rattle.character_hook.specs.Hook.{id_of}
use Rattle.character_hook.specs.declared.hook.Hook.{Hook}
use Rattle.character_hook.specs.declared.hook.Hook.TheVariants.{Retracted, Idle, Flying, Grabbed, Attached, Retracting0, Retracting1, Retracting2}
use Rattle.character.specs.Records.{from_net}
use Rattle.character.specs.declared.Character.{Character}

-- 256ths as f32
abbrev pub of256ths : ℤ → Float
of256ths z = div binary32 (i32_to_f32 z) c256

-- the place and the direction of a record's hook
abbrev pub hook_place : CharacterCore → vec2
hook_place r = vnew (i32_to_f32 r.hook_x) (i32_to_f32 r.hook_y)

abbrev pub hook_dir : CharacterCore → vec2
hook_dir r = vnew (of256ths r.hook_dx) (of256ths r.hook_dy)

-- h is the hook of r: by its state, and of the other numbers those that a hook in this state has; the rest is ignored
pub record HookReads (r : CharacterCore) (h : Hook) : Type 0 where
  pub retracted : r.hook_state ≡ negsuc 0 → h ≡ Retracted
  pub idle : r.hook_state ≡ pos 0 → h ≡ Idle
  pub retracting0 : r.hook_state ≡ pos 1 → h ≡ Retracting0 (hook_place r)
  pub retracting1 : r.hook_state ≡ pos 2 → h ≡ Retracting1 (hook_place r)
  pub retracting2 : r.hook_state ≡ pos 3 → h ≡ Retracting2 (hook_place r)
  pub flying : r.hook_state ≡ pos 4 → h ≡ Flying (hook_place r) (hook_dir r)
  -- state 5 with hooked player -1 reads as Attached
  pub attached : r.hook_state ≡ pos 5 → r.hooked_player ≡ negsuc 0 → h ≡ Attached (hook_place r)
  pub grabbed : r.hook_state ≡ pos 5 → (r.hooked_player ≡ negsuc 0 → ⊥) → h ≡ Grabbed (id_of (cast_unsigned r.hooked_player)) (cast_unsigned r.hook_tick.0)
  -- a state outside -1 to 5 reads as Retracted
  pub outside : (r.hook_state ≤ℤ negsuc 1) ⊎ (pos 6 ≤ℤ r.hook_state) → h ≡ Retracted

-- c is the character of r; the tick, and all bits of `jumped` but the lowest two, are ignored
pub record ReadsAs (r : CharacterCore) (c : Character) : Type 0 where
  pub position : c.pos ≡ vnew (i32_to_f32 r.x) (i32_to_f32 r.y)
  pub velocity : c.vel ≡ vnew (of256ths r.vel_x) (of256ths r.vel_y)
  pub radians : c.angle.radians ≡ of256ths r.angle
  pub left : r.direction ≤ℤ negsuc 0 → c.move_direction ≡ Left
  pub none : r.direction ≡ pos 0 → c.move_direction ≡ None
  pub right : pos 1 ≤ℤ r.direction → c.move_direction ≡ Right
  pub jumped_already : c.jumped_already ≡ eqb (cast_unsigned r.jumped % 2) 1
  pub used_airjump : c.used_airjump ≡ eqb (cast_unsigned r.jumped / 2 % 2) 1
  pub hook : HookReads r c.hook

-- every record
abbrev pub RecordsRead : Type 0
RecordsRead = (r : CharacterCore) → ReadsAs r (from_net r)
