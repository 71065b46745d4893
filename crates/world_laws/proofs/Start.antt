-- A fresh world, a join and the tunings are as document 01 has them. Assumes nothing.
use Prim.Native.Nat.{ℕ}
use native.Mathlib.Omega.{arith}
use mathlib.Core.Bool.{true}
use mathlib.Core.List.{List}
use mathlib.Core.Path.{◌≡◌, refl, ◌∙◌}
use lib.Ieee.{span, climb, size, odd, units, round, mul, of_fields, of_bits}
use lib.IntN.{ℤ, nat_abs}
use lib.ListN.{length, length-set, length-replicate}
use lib.Seq.{get_or-set_same, get_or-set_other}
use borrow.Author.Tests.{eq-eqb, lt-ltb, leb-true}
use Rattle.num_convert.specs.Convert.{i32_to_f32, hundredths_to_f32, to256ths}
use Rattle.num_convert.specs.Whole.{whole_of, round_to_i32}
use Rattle.num_convert.proofs.Wholes.{i32_back}
use Rattle.game_input.specs.Direction.{as_int, angle_to_net}
use Rattle.game_tuning.specs.Tuning.{fresh_tunings, tuning_at, tuning_of}
use Rattle.map_tiles.specs.declared.tiles.Sides.{Sides}
use Rattle.character_hook.specs.Hook.{net_state, net_pos, net_dir, tick_of, net_hooked_player}
use Rattle.character.specs.Character.{spawn}
use Rattle.character.specs.Records.{net_jumped, core_of, to_net}
use Rattle.character.specs.Slot.{joined_slot}
use Rattle.character.specs.Tick.{slot_at, nowhere}
use Rattle.character.specs.declared.Slot.{Slot}
use Rattle.world.specs.Calls.{place_of, is_in_reach, point_of, join}
use Rattle.world.specs.Readers.{of_seated, record_now, input_now, mark_now, seated}
use Rattle.world.specs.World.{fresh, with_slot}
use Rattle.world.specs.declared.World.{World}
use Rattle.world.specs.ReadAnswer.{ReadAnswer}
use Rattle.world.specs.ReadAnswer as reading
use Rattle.world.proofs.Outcomes.{Joins, join_outcome, outcome_facts, outcome_world}
use Rattle.world.proofs.Present.{fresh_absent}
use Rattle.world_laws.specs.Start.{FreshWorld, JoinedAt, JoinStarts, at_rest, TuningsByIndex}

pub fresh_world_lem : (n : ℕ) → FreshWorld n
unfolding fresh fresh_tunings
fresh_world_lem n = record { tunings = refl; size = length-replicate n _; absent = fresh_absent n }

pub tunings_by_index : (ts : List ℤ) → TuningsByIndex ts
unfolding tuning_of tuning_at hundredths_to_f32
tunings_by_index ts = record {
  ground_control_speed = refl;
  ground_control_accel = refl;
  ground_friction = refl;
  ground_jump_impulse = refl;
  air_jump_impulse = refl;
  air_control_speed = refl;
  air_control_accel = refl;
  air_friction = refl;
  hook_length = refl;
  hook_fire_speed = refl;
  hook_drag_accel = refl;
  hook_drag_speed = refl;
  gravity = refl;
  velramp_start = refl;
  velramp_range = refl;
  velramp_curvature = refl;
  player_collision = refl;
  player_hooking = refl;
  hook_hold_is = refl;
}

-- ---- a join
-- a coordinate within reach comes back from its float
reach_back : (z : ℤ) → is_in_reach z ≡ true → round_to_i32 (i32_to_f32 z) ≡ z
unfolding is_in_reach
reach_back z e = let l = leb-true (nat_abs z) 100000 e in i32_back 1 z (omega arith) (omega (arith, l))

rest_record : (x y : ℤ) → is_in_reach x ≡ true → is_in_reach y ≡ true → record_now (joined_slot (point_of x y)) ≡ reading.Record (at_rest x y)
unfolding to_net core_of spawn point_of net_state net_pos net_dir tick_of net_hooked_player net_jumped as_int angle_to_net to256ths whole_of span climb size odd units round mul of_fields of_bits
rest_record x y a b = rw (reach_back x a, reach_back y b)

module _ (n : ℕ) (s : Sides) (ts : List ℕ) (w : World) (id x y : ℤ) (full : length w.slots ≡ n) (e : (join n w s ts id x y).number ≡ 0) where
  abbrev k : ℕ
  k = place_of n id

  abbrev new : Slot
  new = joined_slot (point_of x y)

  facts : Joins n w s ts id x y
  facts = outcome_facts w _ (join n w s ts id x y) (join_outcome n w s ts id x y) e

  at_seat_lem : slot_at (with_slot w k new).slots k ≡ new
  at_seat_lem = get_or-set_same w.slots k new nowhere (let l = facts.seat in omega (arith, l, full))

  reads : (f : Slot → ReadAnswer) → of_seated f (seated n (with_slot w k new) id) ≡ f new
  unfolding seated
  reads f = rw (lt-ltb k n facts.seat, at_seat_lem)

  joined : JoinedAt n w (join n w s ts id x y).world id x y
  joined = rw (outcome_world w _ (join n w s ts id x y) (join_outcome n w s ts id x y), eq-eqb (join n w s ts id x y).number 0 e) (record {
    core = reads record_now ∙ rest_record x y facts.x-reach facts.y-reach;
    input = reads input_now;
    mark = reads mark_now;
    others = λ j d. get_or-set_other w.slots k j new nowhere d;
    tunings = refl;
    size = length-set w.slots k new;
  })

pub join_starts : (n : ℕ) → JoinStarts n
join_starts n s ts w id x y full e = joined n s ts w id x y full e
