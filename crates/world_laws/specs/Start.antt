-- A fresh world, a join, and the tunings by their index. Definitions only; proofs/Start.antt proves it.
use Rattle.std.specs.Prelude.{ℕ, false, List, [], ◌∷◌, ◌≡◌, Float, ℤ, pos, negsuc, length, get_or}
use Rattle.std.specs.Float.{binary32}
use Rattle.std.specs.Float.Ieee.{div, of_bits}
use Rattle.num_convert.specs.Convert.{i32_to_f32}
use Rattle.game_records.specs.declared.CharacterCore.{CharacterCore}
use Rattle.game_records.specs.declared.PlayerInput.{PlayerInput}
use Rattle.game_tuning.specs.Tuning.{tuning_of}
use Rattle.map_tiles.specs.declared.tiles.Sides.{Sides}
use Rattle.character.specs.Tick.{slot_at}
use Rattle.world.specs.Calls.{place_of}
use Rattle.world.specs.Readers.{read_of}
use Rattle.world.specs.Run.{ran}
use Rattle.world.specs.World.{fresh}
use Rattle.world.specs.declared.World.{World}
use Rattle.world.specs.declared.call.Call.TheVariants.{Join}
use Rattle.world.specs.declared.reading.Query.TheVariants as query
use Rattle.world.specs.ReadAnswer as reading

-- ---- a fresh world

-- in hundredths, index 0 up: ground speed, accel, friction; ground jump, air jump; air speed, accel, friction; hook length, fire speed, drag accel,
-- drag speed; gravity; ramp start, range, curvature; player collision, player hooking; then the hold, in steps
abbrev pub document_tunings : List ℤ
document_tunings =
    pos 1000 ∷ pos 200 ∷ pos 50 ∷ pos 1320 ∷ pos 1200 ∷ pos 500 ∷ pos 150 ∷ pos 95 ∷ pos 38000 ∷ pos 8000 ∷ pos 300 ∷ pos 1500 ∷ pos 50
    ∷ pos 55000 ∷ pos 200000 ∷ pos 140 ∷ pos 100 ∷ pos 100 ∷ pos 60 ∷ []

-- n slots, all absent, and those tunings
pub record FreshWorld (n : ℕ) : Type 0 where
  pub tunings : (fresh n).tunings ≡ document_tunings
  pub size : length (fresh n).slots ≡ n
  pub absent : (k : ℕ) → (slot_at (fresh n).slots k).present ≡ false

-- ---- a join

-- the record of somebody at rest at x and y: Idle hook, nobody hooked, all else 0
abbrev pub at_rest : ℤ → ℤ → CharacterCore
at_rest x y = record {
  tick = pos 0;
  x = x;
  y = y;
  vel_x = pos 0;
  vel_y = pos 0;
  angle = pos 0;
  direction = pos 0;
  jumped = pos 0;
  hooked_player = negsuc 0;
  hook_state = pos 0;
  hook_tick = record { 0 = pos 0 };
  hook_x = pos 0;
  hook_y = pos 0;
  hook_dx = pos 0;
  hook_dy = pos 0;
}

-- an input that is all 0
abbrev pub zero_input : PlayerInput
zero_input = record { direction = pos 0; target_x = pos 0; target_y = pos 0; jump = pos 0; hook = pos 0 }

-- the world w after an accepted join, as v: the record, input and floor mark of the id, and nothing else has changed
pub record JoinedAt (n : ℕ) (w v : World) (id x y : ℤ) : Type 0 where
  pub core : read_of n v (query.Record id) ≡ reading.Record (at_rest x y)
  pub input : read_of n v (query.PlayerInput id) ≡ reading.PlayerInput zero_input
  pub mark : read_of n v (query.FloorMark id) ≡ reading.FloorMark false
  pub others : (j : ℕ) → (j ≡ place_of n id → ⊥) → slot_at v.slots j ≡ slot_at w.slots j
  pub tunings : v.tunings ≡ w.tunings
  pub size : length v.slots ≡ length w.slots

-- in every world of n slots
abbrev pub JoinStarts : ℕ → Type 0
JoinStarts n = (s : Sides) (ts : List ℕ) (w : World) (id x y : ℤ) → length w.slots ≡ n → (ran n s ts w (Join id x y)).number ≡ 0 → JoinedAt n w (ran n s ts w (Join id x y)).world id x y

-- ---- the tunings by their index

-- the i32 at an index as f32, divided by 100.0
abbrev pub hundredths : List ℤ → ℕ → Float
hundredths ts k = div binary32 (i32_to_f32 (get_or ts k (pos 0))) (of_bits binary32 0x42c8_0000)

-- each field of lib.rs by document 01's index; the hold as it is
pub record TuningsByIndex (ts : List ℤ) : Type 0 where
  pub ground_control_speed : (tuning_of ts).ground_control_speed ≡ hundredths ts 0
  pub ground_control_accel : (tuning_of ts).ground_control_accel ≡ hundredths ts 1
  pub ground_friction : (tuning_of ts).ground_friction ≡ hundredths ts 2
  pub ground_jump_impulse : (tuning_of ts).ground_jump_impulse ≡ hundredths ts 3
  pub air_jump_impulse : (tuning_of ts).air_jump_impulse ≡ hundredths ts 4
  pub air_control_speed : (tuning_of ts).air_control_speed ≡ hundredths ts 5
  pub air_control_accel : (tuning_of ts).air_control_accel ≡ hundredths ts 6
  pub air_friction : (tuning_of ts).air_friction ≡ hundredths ts 7
  pub hook_length : (tuning_of ts).hook_length ≡ hundredths ts 8
  pub hook_fire_speed : (tuning_of ts).hook_fire_speed ≡ hundredths ts 9
  pub hook_drag_accel : (tuning_of ts).hook_drag_accel ≡ hundredths ts 10
  pub hook_drag_speed : (tuning_of ts).hook_drag_speed ≡ hundredths ts 11
  pub gravity : (tuning_of ts).gravity ≡ hundredths ts 12
  pub velramp_start : (tuning_of ts).velramp_start ≡ hundredths ts 13
  pub velramp_range : (tuning_of ts).velramp_range ≡ hundredths ts 14
  pub velramp_curvature : (tuning_of ts).velramp_curvature ≡ hundredths ts 15
  pub player_collision : (tuning_of ts).player_collision ≡ hundredths ts 16
  pub player_hooking : (tuning_of ts).player_hooking ≡ hundredths ts 17
  pub hook_hold_is : (tuning_of ts).hook_hold ≡ get_or ts 18 (pos 0)
