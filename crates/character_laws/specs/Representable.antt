-- Which characters a record gives back with no bit changed. Definitions only.
use Rattle.std.specs.Prelude.{false, ◌≡◌, ℕ, ◌-◌, ◌^◌, ◌≤◌, ◌<◌, Float, ℤ, pos, negsuc}
use Rattle.character.specs.Records.{most_tick}
use Rattle.num_convert.specs.Casts.{IsI32}
use Rattle.character.specs.declared.Character.{Character}
use Rattle.num_convert.specs.Convert.{i32_to_f32, from256ths}
use Rattle.character_hook.specs.Hook.{nobody}
use Rattle.character_hook.specs.declared.hook.Hook.{Hook}
use Rattle.character_hook.specs.declared.hook.Hook.TheVariants.{Retracted, Idle, Flying, Grabbed, Attached, Retracting0, Retracting1, Retracting2}
use Rattle.game_records.specs.declared.CharacterCore.{CharacterCore}
use Rattle.num_vec2.specs.declared.vec2.{vec2}

-- x is f of an i32
pub record OfI32 (f : ℤ → Float) (x : Float) : Type 0 where
  pub number : ℤ
  pub in_i32 : IsI32 number
  pub is : x ≡ f number

-- both coordinates are
abbrev pub Pair : (ℤ → Float) → vec2 → Type 0
Pair f p = OfI32 f p.x × OfI32 f p.y

-- positions are whole, directions 256ths; who is held is not 4,294,967,295, which would read as nobody, and the tick fits
abbrev pub RepresentableHook : Hook → Type 0
RepresentableHook Retracted = Unit {0}
RepresentableHook Idle = Unit {0}
RepresentableHook (Flying p d) = Pair i32_to_f32 p × Pair from256ths d
RepresentableHook (Grabbed c t) = (c.0 < 2 ^ 32 - 1) × (t ≤ most_tick)
RepresentableHook (Attached p) = Pair i32_to_f32 p
RepresentableHook (Retracting0 p) = Pair i32_to_f32 p
RepresentableHook (Retracting1 p) = Pair i32_to_f32 p
RepresentableHook (Retracting2 p) = Pair i32_to_f32 p

-- the position is whole, velocity and angle are 256ths, and so the hook
pub record Representable (c : Character) : Type 0 where
  pub pos : Pair i32_to_f32 c.pos
  pub vel : Pair from256ths c.vel
  pub hook : RepresentableHook c.hook
  pub angle : OfI32 from256ths c.angle.radians

-- every number of a record is an i32
pub record AllI32 (n : CharacterCore) : Type 0 where
  pub x : IsI32 n.x
  pub y : IsI32 n.y
  pub vel_x : IsI32 n.vel_x
  pub vel_y : IsI32 n.vel_y
  pub angle : IsI32 n.angle
  pub hooked_player : IsI32 n.hooked_player
  pub hook_tick : IsI32 n.hook_tick.0
  pub hook_x : IsI32 n.hook_x
  pub hook_y : IsI32 n.hook_y
  pub hook_dx : IsI32 n.hook_dx
  pub hook_dy : IsI32 n.hook_dy

-- the records whose characters have no record: somebody is held, for a number of ticks below zero, which reads as 2 ^ 31 or more
pub record HeldBelowZero (n : CharacterCore) : Type 0 where
  pub state : n.hook_state ≡ pos 5
  pub somebody : nobody n.hooked_player ≡ false
  pub less : ℕ
  pub ticks : n.hook_tick.0 ≡ negsuc less
