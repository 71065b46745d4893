-- A refused call leaves every number of every buffer as it was. Assumes nothing.
use Prim.Native.Nat.{ℕ, ◌+◌}
use mathlib.Core.Bool.{◌&&◌}
use mathlib.Core.List.{List}
use mathlib.Core.Path.{◌≡◌, refl}
use lib.Dec.{eqb, ltb}
use lib.IntN.{ℤ}
use Rattle.base_rows.specs.Put.{put}
use Rattle.map_tiles.specs.Map.{is_map}
use Rattle.map_tiles.specs.declared.tiles.Sides.{Sides}
use Rattle.map_tiles.specs.Box.{check_box, character_box}
use Rattle.game_records.specs.Numbers.{input_numbers}
use Rattle.game_tuning.specs.Tuning.{tuning_count, may_tune}
use Rattle.character.specs.Tick.{seats}
use Rattle.world.specs.Calls.{place_of, is_in_reach, point_of}
use Rattle.world.specs.Run.{input_of}
use Rattle.world.specs.Step.{step}
use Rattle.world.specs.Answered.{Stepped}
use Rattle.world.specs.declared.call.Call.TheVariants.{Join, Leave, Input, Step, Tune}
use Rattle.world.proofs.Seats.{by_test}
use Rattle.world_numbers.specs.Encoding.{record_count, world_count, records_count, seat_place}
use Rattle.world_numbers.specs.Decoding.{decoding}
use Rattle.world_buffers.specs.Buffers.{LeftWorld, has, of_world, is_there, at_seat, tune_in, input_in, leave_in, join_at_in, join_in}
use Rattle.world_buffers.specs.Leaving.{vacate_in}
use Rattle.world_buffers.specs.Stepping.{StepBuffers, LeftByStep, left_by_step, step_in}
use Rattle.world_buffers.specs.Following.{RefusalsLeave}

module _ (l : List ℤ) where
  abbrev Leaves : LeftWorld → Type 0
  Leaves a = (a.number ≡ 0 → ⊥) → a.world ≡ l

  of_world_lem : (a : LeftWorld) → Leaves a → Leaves (of_world l a)
  of_world_lem a h = by_test Leaves (has world_count l) (λ e. h) (λ e z. refl)

  at_seat_lem : (id : ℤ) (next : ℕ → List ℤ) → Leaves (at_seat l id next)
  at_seat_lem id next =
      let k = place_of seats id in
      of_world_lem _ (by_test Leaves (ltb k seats) (λ e. by_test Leaves (is_there l k) (λ f z. absurd (z refl)) (λ f z. refl)) (λ e z. refl))

  tuning : (index z : ℤ) → Leaves (tune_in l index z)
  unfolding tune_in
  tuning index z = let k = place_of tuning_count index in of_world_lem _ (by_test Leaves (ltb k tuning_count) (λ e. by_test Leaves (may_tune k z) (λ t q. absurd (q refl)) (λ t q. refl)) (λ e q. refl))

  joining : (s : Sides) (ts : List ℕ) (id x y : ℤ) → Leaves (join_in s ts l id x y)
  unfolding join_in join_at_in
  joining s ts id x y =
      let k = place_of seats id in
      let p = point_of x y in
      of_world_lem _ (
      by_test Leaves (is_map s ts)
      (λ a. by_test Leaves (ltb k seats)
      (λ b. by_test Leaves (is_in_reach x && is_in_reach y)
      (λ c. by_test Leaves (check_box s ts p character_box) (λ d z. refl) (λ d. by_test Leaves (is_there l k) (λ e z. refl) (λ e z. absurd (z refl))))
      (λ c z. refl))
      (λ b z. refl))
      (λ a z. refl))

-- ---- step
module _ (l : List ℤ) (b : StepBuffers) where
  abbrev LeavesAll : LeftByStep → Type 0
  LeavesAll r = (r.number ≡ 0 → ⊥) → (r.world ≡ l) × (r.told ≡ b)

  kept : (a : Stepped) → LeavesAll (left_by_step l b a)
  unfolding left_by_step
  kept a = by_test LeavesAll (eqb a.number 0) (λ e z. absurd (z refl)) (λ e z. (refl, refl))

  stepping : (s : Sides) (ts : List ℕ) → LeavesAll (step_in s ts l b)
  unfolding step_in
  stepping s ts = by_test LeavesAll (has world_count l && has records_count b.records && has seats b.removed) (λ e. kept (step seats (decoding seats l) s ts)) (λ e z. (refl, refl))

pub refusals_leave : RefusalsLeave
unfolding input_in leave_in
refusals_leave s ts b l (Join id x y) h = (joining l s ts id x y h, refl)
refusals_leave s ts b l (Leave id) h = (at_seat_lem l id (vacate_in l) h, refl)
refusals_leave s ts b l (Input id d x y j u) h = (at_seat_lem l id (λ k. put l (seat_place k + record_count) (input_numbers (input_of d x y j u))) h, refl)
refusals_leave s ts b l (Tune index z) h = (tuning l index z h, refl)
refusals_leave s ts b l Step h = stepping l b s ts h
