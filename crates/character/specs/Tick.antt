-- `Character::tick` of lib.rs, among n slots. Definitions only.
use Rattle.std.specs.Prelude.{ℕ, Bool, false, cond, List, eqb, ltb, get_or, set, ℤ, Float}
use Rattle.std.specs.Float.{nan, binary32}
use Rattle.std.specs.Float.Ieee.{add, ne}
use Rattle.base_turns.specs.Turns.{fold}
use Rattle.num_convert.specs.Number.{c0}
use Rattle.num_vec2.specs.Vec2.{vnew}
use Rattle.num_vec2.specs.declared.vec2.{vec2}
use Rattle.game_input.specs.declared.direction.MoveDirection.TheVariants.{Left}
use Rattle.character_hook.specs.Hook.{id_of, on_grabbed}
use Rattle.character_hook.specs.declared.hook.CharacterId.{CharacterId}
use Rattle.character_hook.specs.declared.hook.Hook.{Hook}
use Rattle.character_hook.specs.declared.hook.Hook.TheVariants.{Retracted}
use Rattle.game_records.specs.declared.PlayerInput.{PlayerInput}
use Rattle.game_refusals.specs.Refusals.{bad_map, bad_id, too_far}
use Rattle.game_tuning.specs.Tuning.{tuning_of}
use Rattle.game_tuning.specs.declared.Tuning.{Tuning}
use Rattle.map_tiles.specs.Map.{is_map}
use Rattle.map_tiles.specs.declared.tiles.Sides.{Sides}
use Rattle.game_input.specs.Inputs.{move_direction, target_dir, aim, jumps, hooks}
use Rattle.character_motion.specs.Controls.{grounded, control_of, jump, landed, walk, clamp_speed}
use Rattle.character_hook.specs.Hooking.{fire, nearer, grab, hold}
use Rattle.character_hook.specs.declared.hooking.Nearest.{Nearest}
use Rattle.character_hook.specs.Dragging.{dragged}
use Rattle.character_hook.specs.Flying.{flown}
use Rattle.character_hook.specs.declared.flying.Way.{Way}
use Rattle.character_hook.specs.declared.flying.Way.TheVariants as way
use Rattle.character_meeting.specs.Meeting.{meet, pull_on}
use Rattle.character_meeting.specs.declared.meeting.HookPull.{HookPull}
use Rattle.character.specs.Character.{with_hook, with_vel}
use Rattle.character.specs.Slot.{empty_slot, with_character, with_grounded}
use Rattle.character.specs.declared.Character.{Character}
use Rattle.character.specs.declared.Slot.{Slot}
use Rattle.character.specs.declared.tick.AfterTick.{AfterTick}
use Rattle.std.specs.Prelude.{Option, None, Result, Ok, Err}
use Rattle.game_refusals.specs.declared.Refusal.{Refusal}
use Rattle.game_refusals.specs.declared.Refusal.TheVariants.{BadMap, BadId, TooFar}
use Rattle.game_refusals.specs.Refusals.{number_of_answer}
use Rattle.std.specs.Prelude.{Some}

-- how many slots a world has; every definition below takes any number n of them
abbrev pub seats : ℕ
seats = 64

-- what an index past the end reads, which no call does: the value that the logic takes for it
abbrev pub nowhere : Slot
nowhere = with_character empty_slot (record { pos = vnew nan nan; vel = vnew nan nan; hook = Retracted; jumped_already = false; used_airjump = false; angle = record { radians = nan }; move_direction = Left })

abbrev pub slot_at : List Slot → ℕ → Slot
slot_at ss j = get_or ss j nowhere

-- direction and angle, gravity and jump, the hook's button, walking and friction
unfoldable pub steer : Character → Bool → PlayerInput → Tuning → Character
steer c on_ground i t =
    let direction = move_direction i in
    let jumped = jump (record { vel_y = add binary32 c.vel.y t.gravity; jumped_already = c.jumped_already; used_airjump = c.used_airjump }) (jumps i) on_ground t in
    record {
      pos = c.pos;
      vel = vnew (walk c.vel.x direction (control_of on_ground t)) jumped.vel_y;
      hook = fire c.hook (hooks i) c.pos (target_dir i);
      jumped_already = jumped.jumped_already;
      used_airjump = landed on_ground jumped.used_airjump;
      angle = aim i;
      move_direction = direction;
    }

-- the slot j, if it is another's and somebody is there, is looked at
abbrev pub nearest_turn : List Slot → ℕ → vec2 → vec2 → ℕ → Option Nearest → Option Nearest
nearest_turn ss id from to j best = cond (eqb j id) best (cond (slot_at ss j).present (nearer best (id_of j) (slot_at ss j).character.pos from to) best)

-- whom a hook meets first on its way
unfoldable pub nearest : ℕ → List Slot → ℕ → vec2 → vec2 → Option Nearest
nearest n ss id from to = fold (nearest_turn ss id from to) n 0 None

-- a hook that flew grabs whom it meets, where players can be hooked
unfoldable pub caught : ℕ → Result Way Refusal → ℕ → List Slot → Float → Result Hook Refusal
caught n (Err e) id ss hooking = Err e
caught n (Ok (way.Still h)) id ss hooking = Ok h
caught n (Ok (way.Along from to h)) id ss hooking = Ok (cond (ne hooking c0) (grab h (nearest n ss id from to)) h)

-- what becomes of a hook on its way
abbrev pub flight : ℕ → Hook → vec2 → ℕ → List Slot → Sides → List ℕ → Tuning → Result Hook Refusal
flight n h p id ss s ts t = caught n (flown h p s ts t) id ss t.player_hooking

-- the own velocity after the slot j, if it is another's and somebody is there
abbrev pub meet_turn : List Slot → ℕ → vec2 → Hook → Tuning → ℕ → vec2 → vec2
meet_turn ss id p h t j v = cond (eqb j id) v (cond (slot_at ss j).present (meet p v h (slot_at ss j).character.pos (id_of j) t) v)

-- the own velocity after the others, by rising id
unfoldable pub meet_all : ℕ → List Slot → ℕ → vec2 → vec2 → Hook → Tuning → vec2
meet_all n ss id p v h t = fold (meet_turn ss id p h t) n 0 v

-- the character cid is held: it is pulled, if it is another and there
abbrev pub pull_from : ℕ → List Slot → ℕ → vec2 → Tuning → CharacterId → ℕ → Option HookPull
pull_from n ss id p t cid ticks =
    let other = slot_at ss cid.0 in
    cond (ltb cid.0 n) (cond (eqb cid.0 id) None (cond other.present (pull_on p cid other.character.pos other.character.vel t) None)) None

-- whom the hook pulls, and the velocity that it leaves them
unfoldable pub pull_of : ℕ → List Slot → ℕ → vec2 → Hook → Tuning → Option HookPull
pull_of n ss id p h t = on_grabbed (pull_from n ss id p t) None h

-- the slots with that velocity
unfoldable pub after_pull : List Slot → Option HookPull → List Slot
after_pull ss None = ss
after_pull ss (Some p) = set ss p.cid.0 (with_character (slot_at ss p.cid.0) (with_vel (slot_at ss p.cid.0).character p.vel))

-- what it leaves of the slot at the seat j
unfoldable pub pulled_slot : Slot → Option HookPull → ℕ → Slot
pulled_slot s None j = s
pulled_slot s (Some p) j = cond (eqb p.cid.0 j) (with_character s (with_vel s.character p.vel)) s

-- after the flight: the drag of an attached hook, the count of a held one, the others, the clamp, and whom the hook pulls
unfoldable pub hooked : ℕ → Character → Bool → Hook → ℕ → List Slot → Tuning → AfterTick
hooked n c on_ground h id ss t =
    let vel = meet_all n ss id c.pos (dragged h c.pos c.vel c.move_direction t) (hold h t.hook_hold) t in
    record { me = with_vel (with_hook c (hold h t.hook_hold)) (clamp_speed vel); pull = pull_of n ss id c.pos (hold h t.hook_hold) t; grounded = on_ground }

-- a hook that would fly too far refuses the tick
abbrev pub ticked : ℕ → Character → Bool → ℕ → List Slot → Tuning → Result Hook Refusal → Result AfterTick Refusal
ticked n c on_ground id ss t (Err e) = Err e
ticked n c on_ground id ss t (Ok h) = Ok (hooked n c on_ground h id ss t)

unfoldable pub tick_at : ℕ → Character → ℕ → List Slot → Sides → List ℕ → PlayerInput → Tuning → Result AfterTick Refusal
tick_at n c id ss s ts i t =
    let on_ground = grounded s ts c.pos in
    let steered = steer c on_ground i t in
    ticked n steered on_ground id ss t (flight n steered.hook c.pos id ss s ts t)

-- what its own tick leaves of a slot: the character, and the floor mark
abbrev pub ticked_slot : Slot → AfterTick → Slot
ticked_slot s a = with_grounded (with_character s a.me) a.grounded

-- refused with 1 where the map is none, with 2 where the id has no slot
unfoldable pub tick : ℕ → Character → CharacterId → List Slot → Sides → List ℕ → PlayerInput → List ℤ → Result AfterTick Refusal
tick n c id ss s ts i tunings =
    cond (is_map s ts)
    (cond (ltb id.0 n) (tick_at n c id.0 ss s ts i (tuning_of tunings)) (Err BadId))
    (Err BadMap)
