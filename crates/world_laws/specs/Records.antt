-- The numbers of a record: what each is made of, and its range. Definitions only; proofs/Records.antt and proofs/Shape.antt prove it.
use Rattle.std.specs.Prelude.{ℕ, ◌<◌, Bool, true, false, List, [], ◌∷◌, ◌⊎◌, ◌≡◌, Float, ℤ, pos, negsuc, ◌≤ℤ◌}
use Rattle.std.specs.Float.{binary32}
use Rattle.std.specs.Float.Ieee.{mul}
use Rattle.num_convert.specs.Casts.{cast_signed}
use Rattle.num_convert.specs.Convert.{c256}
use Rattle.num_convert.specs.Number.{c0}
use Rattle.num_convert.specs.Whole.{round_to_i32, trunc_to_i32}
use Rattle.num_vec2.specs.Vec2.{vnew}
use Rattle.num_vec2.specs.declared.vec2.{vec2}
use Rattle.aim_rule.specs.Angle.{net_angle}
use Rattle.game_input.specs.declared.direction.MoveDirection.{MoveDirection}
use Rattle.game_input.specs.declared.direction.MoveDirection.TheVariants.{Left, None, Right}
use Rattle.game_records.specs.declared.CharacterCore.{CharacterCore}
use Rattle.game_records.specs.declared.PlayerInput.{PlayerInput}
use Rattle.map_tiles.specs.declared.tiles.Sides.{Sides}
use Rattle.character_hook.specs.declared.hook.Hook.{Hook}
use Rattle.character_hook.specs.declared.hook.Hook.TheVariants.{Retracted, Idle, Flying, Grabbed, Attached, Retracting0, Retracting1, Retracting2}
use Rattle.character.specs.Tick.{slot_at}
use Rattle.character.specs.declared.Character.{Character}
use Rattle.world.specs.Demand3.{left, record_at}
use Rattle.world.specs.Hold.{hold_in}
use Rattle.world.specs.Readers.{read_of}
use Rattle.world.specs.Run.{ran, after}
use Rattle.world.specs.World.{fresh}
use Rattle.world.specs.declared.World.{World}
use Rattle.world.specs.declared.call.Call.{Call}
use Rattle.world.specs.declared.call.Call.TheVariants.{Step}
use Rattle.world.specs.declared.reading.Query.TheVariants as query
use Rattle.world.specs.ReadAnswer as reading
use Rattle.send_rule.specs.Link.{Link, fresh_link, sent_on, EveryCall, messages}
use Rattle.send_rule.specs.declared.Passed.TheVariants as passed
use Rattle.std.specs.Prelude.{Ok}

-- ---- the character that a record is made of

-- in 1/256, rounded
abbrev pub in256ths : Float → ℤ
in256ths v = round_to_i32 (mul binary32 v c256)

abbrev pub direction_number : MoveDirection → ℤ
direction_number Left = negsuc 0
direction_number None = pos 0
direction_number Right = pos 1

-- bit 1: the air jump is used; bit 0: the button is held
abbrev pub jump_number : Bool → Bool → ℤ
jump_number false false = pos 0
jump_number false true = pos 1
jump_number true false = pos 2
jump_number true true = pos 3

-- the seven numbers of a hook: state, hooked player, tick, place and direction
pub record HookNumbers (r : CharacterCore) (state player tick : ℤ) (p d : vec2) : Type 0 where
  pub hook_state : r.hook_state ≡ state
  pub hooked_player : r.hooked_player ≡ player
  pub hook_tick : r.hook_tick.0 ≡ tick
  pub hook_x : r.hook_x ≡ round_to_i32 p.x
  pub hook_y : r.hook_y ≡ round_to_i32 p.y
  pub hook_dx : r.hook_dx ≡ in256ths d.x
  pub hook_dy : r.hook_dy ≡ in256ths d.y

-- no place, no direction
abbrev pub zero2 : vec2
zero2 = vnew c0 c0

-- who is held is told as the bits of an i32
abbrev pub HookMadeOf : CharacterCore → Hook → Type 0
HookMadeOf r Retracted = HookNumbers r (negsuc 0) (negsuc 0) (pos 0) zero2 zero2
HookMadeOf r Idle = HookNumbers r (pos 0) (negsuc 0) (pos 0) zero2 zero2
HookMadeOf r (Retracting0 p) = HookNumbers r (pos 1) (negsuc 0) (pos 0) p zero2
HookMadeOf r (Retracting1 p) = HookNumbers r (pos 2) (negsuc 0) (pos 0) p zero2
HookMadeOf r (Retracting2 p) = HookNumbers r (pos 3) (negsuc 0) (pos 0) p zero2
HookMadeOf r (Flying p d) = HookNumbers r (pos 4) (negsuc 0) (pos 0) p d
HookMadeOf r (Attached p) = HookNumbers r (pos 5) (negsuc 0) (pos 0) p zero2
HookMadeOf r (Grabbed c t) = HookNumbers r (pos 5) (cast_signed c.0) (pos t) zero2 zero2

-- each of the fifteen numbers
pub record MadeOf (c : Character) (r : CharacterCore) : Type 0 where
  pub tick : r.tick ≡ pos 0
  pub x : r.x ≡ round_to_i32 c.pos.x
  pub y : r.y ≡ round_to_i32 c.pos.y
  pub vel_x : r.vel_x ≡ in256ths c.vel.x
  pub vel_y : r.vel_y ≡ in256ths c.vel.y
  pub angle : r.angle ≡ trunc_to_i32 (mul binary32 c.angle.radians c256)
  pub direction : r.direction ≡ direction_number c.move_direction
  pub jumped : r.jumped ≡ jump_number c.used_airjump c.jumped_already
  pub hook : HookMadeOf r c.hook

-- a record's direction says whether the input's is below, at or above 0
pub record Points (told input : ℤ) : Type 0 where
  pub left : told ≡ negsuc 0 → input ≤ℤ negsuc 0
  pub none : told ≡ pos 0 → input ≡ pos 0
  pub right : told ≡ pos 1 → pos 1 ≤ℤ input

-- the record of an accepted step is made of what the move left, and aims and points as the stored input says
pub record TakenFrom (n : ℕ) (w : World) (s : Sides) (ts : List ℕ) (j : ℕ) (r : CharacterCore) (i : PlayerInput) : Type 0 where
  pub character : Character
  pub left : left n w s ts j ≡ Ok character
  pub made : MadeOf character r
  pub aimed : r.angle ≡ net_angle i.target_x i.target_y
  pub points : Points r.direction i.direction

-- in any world
pub record RecordsMade (n : ℕ) : Type 0 where
  pub step : (s : Sides) (ts : List ℕ) (w : World) (j : ℕ) → (ran n s ts w Step).number ≡ 0 → j < n → (slot_at w.slots j).present ≡ true → TakenFrom n w s ts j (record_at (ran n s ts w Step).records j).core (slot_at w.slots j).input
  pub read : (w : World) (k : ℕ) (r : CharacterCore) → read_of n w (query.Record (pos k)) ≡ reading.Record r → MadeOf (slot_at w.slots k).character r

-- ---- ranges

abbrev pub Within : ℤ → ℤ → ℤ → Type 0
Within least most z = (least ≤ℤ z) × (z ≤ℤ most)

-- a record of a world of n seats in which no hook holds for longer than this
pub record Shape (n hold : ℕ) (r : CharacterCore) : Type 0 where
  pub tick : r.tick ≡ pos 0
  pub direction : Within (negsuc 0) (pos 1) r.direction
  pub jumped : Within (pos 0) (pos 3) r.jumped
  pub hook_state : Within (negsuc 0) (pos 5) r.hook_state
  pub hook_tick : Within (pos 0) (pos hold) r.hook_tick.0
  -- -1, or a seat, and then the state is 5; nobody is held for no ticks
  pub hooked_player : (r.hooked_player ≡ negsuc 0) ⊎ ((k : ℕ) × (k < n) × (r.hooked_player ≡ pos k) × (r.hook_state ≡ pos 5))
  pub unhooked : r.hooked_player ≡ negsuc 0 → r.hook_tick.0 ≡ pos 0
  -- a hook that is Retracted, Idle or holds somebody has no place, and only one that flies a direction
  pub placeless : (r.hook_state ≡ negsuc 0) ⊎ ((r.hook_state ≡ pos 0) ⊎ (r.hooked_player ≡ negsuc 0 → ⊥)) → (r.hook_x ≡ pos 0) × (r.hook_y ≡ pos 0)
  pub undirected : (r.hook_state ≡ pos 4 → ⊥) → (r.hook_dx ≡ pos 0) × (r.hook_dy ≡ pos 0)

-- a message of k that a call on l sends
abbrev pub MessageShaped : ℕ → Sides → List ℕ → ℕ → Link → Call → Type 0
MessageShaped n s ts k l c = (r : CharacterCore) (i : PlayerInput) → messages k (sent_on n s ts l c).passed ≡ passed.Message k r i ∷ [] → Shape n (hold_in l.world) r

-- every record that a step takes, a reader tells or a sender sends, after any list of calls from a fresh world of n slots
pub record RecordShapes (n : ℕ) : Type 0 where
  pub step : (s : Sides) (ts : List ℕ) (cs : List Call) (j : ℕ) → let w = after n s ts (fresh n) cs in (ran n s ts w Step).number ≡ 0 → j < n → (slot_at w.slots j).present ≡ true → Shape n (hold_in w) (record_at (ran n s ts w Step).records j).core
  pub read : (s : Sides) (ts : List ℕ) (cs : List Call) (id : ℤ) (r : CharacterCore) → read_of n (after n s ts (fresh n) cs) (query.Record id) ≡ reading.Record r → Shape n 60 r
  pub sent : (s : Sides) (ts : List ℕ) (cs : List Call) (k : ℕ) → k < n → EveryCall n s ts (MessageShaped n s ts k) (fresh_link n) cs
