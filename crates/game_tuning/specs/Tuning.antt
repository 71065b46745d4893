-- The tunings of a world as floats. Definitions only.
use Rattle.std.specs.Prelude.{ℕ, List, [], ◌∷◌, Bool, true, false, cond, ◌&&◌, leb, eqb, get_or, ℤ, pos, negsuc, Float}
use Rattle.game_tuning.specs.declared.Tuning.{Tuning}
use Rattle.game_constants.specs.Constants.{max_hook_grab_time}
use Rattle.num_convert.specs.Convert.{hundredths_to_f32}

-- the tunings of Teeworlds 0.6, in hundredths: ground speed, accel, friction; ground jump, air jump; air speed, accel, friction; hook
-- length, fire speed, drag accel, drag speed; gravity; ramp start, range, curvature; player collision, player hooking; and the hook's hold, in whole steps
unfoldable pub fresh_tunings : List ℤ
fresh_tunings = pos 1000 ∷ pos 200 ∷ pos 50 ∷ pos 1320 ∷ pos 1200 ∷ pos 500 ∷ pos 150 ∷ pos 95 ∷ pos 38000 ∷ pos 8000 ∷ pos 300 ∷ pos 1500 ∷ pos 50 ∷ pos 55000 ∷ pos 200000 ∷ pos 140 ∷ pos 100 ∷ pos 100 ∷ pos max_hook_grab_time ∷ []

-- how many tunings there are; which of them is player collision, which player hooking, which the hook's hold
abbrev pub tuning_count : ℕ
tuning_count = 19

abbrev pub player_collision : ℕ
player_collision = 16

abbrev pub player_hooking : ℕ
player_hooking = 17

abbrev pub hook_hold : ℕ
hook_hold = 18

-- ---- the hook's hold

-- from 1 to 60 steps
unfoldable pub is_hold : ℤ → Bool
is_hold (pos n) = leb 1 n && leb n max_hook_grab_time
is_hold (negsuc k) = false

-- what a number stands for where a hold is read: the nearest hold
unfoldable pub hold_of : ℤ → ℕ
hold_of (pos n) = cond (leb 1 n) (cond (leb n max_hook_grab_time) n max_hook_grab_time) 1
hold_of (negsuc k) = 1

-- whether the tuning with the index k takes a number: any of hundredths, and a hold
unfoldable pub may_tune : ℕ → ℤ → Bool
may_tune k z = cond (eqb k hook_hold) (is_hold z) true

-- the tuning with the index k as a reader is told it
unfoldable pub told_tuning : ℕ → ℤ → ℤ
told_tuning k z = cond (eqb k hook_hold) (pos (hold_of z)) z

-- ---- as floats

-- the float of the tuning with the index i
unfoldable pub tuning_at : List ℤ → ℕ → Float
tuning_at ts i = hundredths_to_f32 (get_or ts i (pos 0))

-- in document 01's order
unfoldable pub tuning_of : List ℤ → Tuning
tuning_of ts = record {
  ground_control_speed = tuning_at ts 0;
  ground_control_accel = tuning_at ts 1;
  ground_friction = tuning_at ts 2;
  ground_jump_impulse = tuning_at ts 3;
  air_jump_impulse = tuning_at ts 4;
  air_control_speed = tuning_at ts 5;
  air_control_accel = tuning_at ts 6;
  air_friction = tuning_at ts 7;
  hook_length = tuning_at ts 8;
  hook_fire_speed = tuning_at ts 9;
  hook_drag_accel = tuning_at ts 10;
  hook_drag_speed = tuning_at ts 11;
  gravity = tuning_at ts 12;
  velramp_start = tuning_at ts 13;
  velramp_range = tuning_at ts 14;
  velramp_curvature = tuning_at ts 15;
  player_collision = tuning_at ts 16;
  player_hooking = tuning_at ts 17;
  hook_hold = get_or ts hook_hold (pos 0);
}
