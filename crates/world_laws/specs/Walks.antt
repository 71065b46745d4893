-- Refusal 9: a walk is refused if and only if its count of turns is 65,537 or more. Definitions only; proofs/Walks.antt and proofs/Steps.antt prove it.
use Rattle.std.specs.Prelude.{ℕ, ◌≤◌, ◌<◌, true, List, ◌⊎◌, ◌↔◌, ◌≡◌, Float, ℤ, pos, ◌+ℤ◌, length, ◌≤ℤ◌}
use Rattle.std.specs.Float.{binary32}
use Rattle.std.specs.Float.Ieee.{add, mul, lt, ne}
use Rattle.base_turns.specs.Turns.{more, run}
use Rattle.num_convert.specs.Number.{c0, c1}
use Rattle.num_convert.specs.Whole.{round_to_i32, trunc_to_i32}
use Rattle.num_ramp.specs.Ramp.{velocity_ramp}
use Rattle.num_vec2.specs.Vec2.{vnew, vlength, vdistance}
use Rattle.num_vec2.specs.declared.vec2.{vec2}
use Rattle.game_input.specs.Inputs.{target_dir, hooks}
use Rattle.game_records.specs.declared.PlayerInput.{PlayerInput}
use Rattle.game_tuning.specs.Tuning.{tuning_of}
use Rattle.game_tuning.specs.declared.Tuning.{Tuning}
use Rattle.map_tiles.specs.declared.tiles.Sides.{Sides}
use Rattle.map_lines.specs.Line.{check_line}
use Rattle.map_walks.specs.Move.{least_dist, move_box}
use Rattle.map_walks.specs.declared.moves.Body.{Body}
use Rattle.character_hook.specs.Hook.{id_of}
use Rattle.character_hook.specs.Hooking.{fire, fly}
use Rattle.character_hook.specs.declared.hook.CharacterId.{CharacterId}
use Rattle.character_hook.specs.declared.hook.Hook.{Hook}
use Rattle.character_hook.specs.declared.hook.Hook.TheVariants.{Flying}
use Rattle.character_walk.specs.Walking.{c50, ramped_move}
use Rattle.character.specs.Tick.{slot_at, tick}
use Rattle.character.specs.Walk.{player_walk, move}
use Rattle.character.specs.declared.Character.{Character}
use Rattle.character.specs.declared.Slot.{Slot}
use Rattle.world.specs.Answers.{LowestFirst, IsMap}
use Rattle.world.specs.Run.{ran}
use Rattle.world.specs.Step.{Moving, tick_turn, tick_all, move_turn, moving_from}
use Rattle.world.specs.declared.World.{World}
use Rattle.world.specs.declared.call.Call.TheVariants.{Step}
use Rattle.std.specs.Prelude.{Ok, Err}
use Rattle.game_refusals.specs.declared.Refusal.{Refusal}
use Rattle.game_refusals.specs.declared.Refusal.TheVariants.{TooFar}
use Rattle.game_refusals.specs.Refusals.{number_of_answer}

-- ---- the counts of document 01, as whole numbers

-- `check_line`: trunc(dist + 1)
abbrev pub line_count : vec2 → vec2 → ℤ
line_count from to = trunc_to_i32 (add binary32 (vdistance from to) c1)

-- `move_box`: round(dist) + 1
abbrev pub box_count : vec2 → ℤ
box_count vel = round_to_i32 (vlength vel) +ℤ pos 1

-- the player walk of `move_`: trunc(distance) + 1
abbrev pub player_count : vec2 → vec2 → ℤ
player_count from to = trunc_to_i32 (vdistance from to) +ℤ pos 1

-- 65,537 turns or more refuse, 65,536 run
abbrev pub TooMany : ℤ → Type 0
TooMany z = pos 65537 ≤ℤ z

-- a box moves only if dist > 0.00001
pub record BoxTooFar (vel : vec2) : Type 0 where
  pub moves : lt least_dist (vlength vel) ≡ true
  pub many : TooMany (box_count vel)

-- a character walks among others only if player collision isn't 0
pub record WalkTooFar (from to : vec2) (collision : Float) : Type 0 where
  pub collides : ne collision c0 ≡ true
  pub many : TooMany (player_count from to)

-- ---- which numbers fit

-- `check_line`
pub data LineFits (s : Sides) (ts : List ℕ) (from to : vec2) (k : ℕ) : Type 0 where
  no_map : k ≡ 1 → (IsMap s ts → ⊥) → LineFits s ts from to k
  too_far : k ≡ 9 → TooMany (line_count from to) → LineFits s ts from to k

-- `move_box`
pub data BoxFits (s : Sides) (ts : List ℕ) (vel : vec2) (k : ℕ) : Type 0 where
  no_map : k ≡ 1 → (IsMap s ts → ⊥) → BoxFits s ts vel k
  too_far : k ≡ 9 → BoxTooFar vel → BoxFits s ts vel k

-- a hook flies, of a character at p, and its line is too long
pub record FliesTooFar (h : Hook) (p : vec2) (t : Tuning) : Type 0 where
  pub from : vec2
  pub dir : vec2
  pub flies : h ≡ Flying from dir
  pub many : TooMany (line_count from (fly from dir p t).to)

-- the hook of a character after its button, in its tick
abbrev pub hook_fired : Character → PlayerInput → Hook
hook_fired c i = fire c.hook (hooks i) c.pos (target_dir i)

-- `tick`
pub data TickFits (n : ℕ) (c : Character) (id : CharacterId) (s : Sides) (ts : List ℕ) (i : PlayerInput) (t : Tuning) (k : ℕ) : Type 0 where
  no_map : k ≡ 1 → (IsMap s ts → ⊥) → TickFits n c id s ts i t k
  no_seat : k ≡ 2 → n ≤ id.0 → TickFits n c id s ts i t k
  too_far : k ≡ 9 → FliesTooFar (hook_fired c i) c.pos t → TickFits n c id s ts i t k

-- the velocity with which a box moves: sideways times the ramp
abbrev pub ramped_vel : vec2 → Tuning → vec2
ramped_vel v t = vnew (mul binary32 v.x (velocity_ramp (mul binary32 (vlength v) c50) t.velramp_start t.velramp_range t.velramp_curvature)) v.y

-- `move_`: its box, or the walk among others to where the box went
pub data MoveFits (n : ℕ) (c : Character) (id : CharacterId) (s : Sides) (ts : List ℕ) (t : Tuning) (k : ℕ) : Type 0 where
  no_map : k ≡ 1 → (IsMap s ts → ⊥) → MoveFits n c id s ts t k
  no_seat : k ≡ 2 → n ≤ id.0 → MoveFits n c id s ts t k
  box_too_far : k ≡ 9 → BoxTooFar (ramped_vel c.vel t) → MoveFits n c id s ts t k
  walk_too_far : k ≡ 9 → (b : Body) → ramped_move s ts c.pos c.vel t ≡ Ok b → WalkTooFar c.pos b.pos t.player_collision → MoveFits n c id s ts t k

-- ---- the claims

-- each walk, and the ticks and moves that they are part of: lowest fitting number first
pub record WalksRefused : Type 0 where
  pub line : (s : Sides) (ts : List ℕ) (from to : vec2) → LowestFirst (LineFits s ts from to) (number_of_answer (check_line s ts from to))
  pub box : (s : Sides) (ts : List ℕ) (at vel box : vec2) → LowestFirst (BoxFits s ts vel) (number_of_answer (move_box s ts at vel box))
  pub player : (n : ℕ) (ss : List Slot) (id : ℕ) (from to : vec2) (collision : Float) → (player_walk n ss id from to collision ≡ (Err TooFar)) ↔ WalkTooFar from to collision
  pub player_only : (n : ℕ) (ss : List Slot) (id : ℕ) (from to : vec2) (collision : Float) (e : Refusal) → player_walk n ss id from to collision ≡ Err e → e ≡ TooFar
  pub tick : (n : ℕ) (c : Character) (id : CharacterId) (ss : List Slot) (s : Sides) (ts : List ℕ) (i : PlayerInput) (tunings : List ℤ) → LowestFirst (TickFits n c id s ts i (tuning_of tunings)) (number_of_answer (tick n c id ss s ts i tunings))
  pub move : (n : ℕ) (c : Character) (id : CharacterId) (ss : List Slot) (s : Sides) (ts : List ℕ) (tunings : List ℤ) → LowestFirst (MoveFits n c id s ts (tuning_of tunings)) (number_of_answer (move n c id ss s ts tunings))

-- in a step on w the tick of j is refused with 9, among the slots that the ticks of the ids below it left
pub record TickTooFar (n : ℕ) (s : Sides) (ts : List ℕ) (w : World) : Type 0 where
  pub j : ℕ
  pub seat : j < n
  pub slots : List Slot
  pub below : run (tick_turn n s ts (tuning_of w.tunings)) j 0 w.slots ≡ more slots
  pub present : (slot_at slots j).present ≡ true
  pub refused : number_of_answer (tick n (slot_at slots j).character (id_of j) slots s ts (slot_at slots j).input w.tunings) ≡ 9

-- all have ticked, and the move of j is refused with 9, among the slots that the moves of the ids below it left
pub record MoveTooFar (n : ℕ) (s : Sides) (ts : List ℕ) (w : World) : Type 0 where
  pub j : ℕ
  pub seat : j < n
  pub slots : List Slot
  pub moving : Moving
  pub ticked : tick_all n w.slots s ts (tuning_of w.tunings) ≡ more slots
  pub below : run (move_turn n s ts (tuning_of w.tunings)) j 0 (moving_from n slots) ≡ more moving
  pub present : (slot_at moving.slots j).present ≡ true
  pub refused : number_of_answer (move n (slot_at moving.slots j).character (id_of j) moving.slots s ts w.tunings) ≡ 9

-- a step answers 0, 1 or 9 and nothing else, and 9 if and only if a tick or a move in it is refused with 9
pub record StepNumbers (n : ℕ) : Type 0 where
  pub only : (s : Sides) (ts : List ℕ) (w : World) → length w.slots ≤ n → let k = (ran n s ts w Step).number in (k ≡ 0) ⊎ ((k ≡ 1) ⊎ (k ≡ 9))
  pub nine : (s : Sides) (ts : List ℕ) (w : World) → ((ran n s ts w Step).number ≡ 9) ↔ (IsMap s ts × (TickTooFar n s ts w ⊎ MoveTooFar n s ts w))
