-- Calls on any numbers of a world's length are the calls on the world that they stand for. Assumes nothing.
use Prim.Native.Nat.{ℕ, ◌+◌, ◌<◌}
use mathlib.Core.Bool.{Bool, true, false, cond, ◌&&◌, true≢false}
use mathlib.Core.List.{List}
use mathlib.Core.Path.{◌≡◌, refl, sym, ap, ◌∙◌, subst}
use native.Mathlib.Omega.{arith}
use lib.Dec.{eqb, ltb}
use lib.IntN.{ℤ}
use lib.ListN.{length, set}
use borrow.Author.Tests.{ltb-true, eqb-true, eqb-false, eq-eqb}
use Rattle.base_rows.specs.Put.{put}
use Rattle.num_vec2.specs.declared.vec2.{vec2}
use Rattle.map_tiles.specs.Map.{is_map}
use Rattle.map_tiles.specs.declared.tiles.Sides.{Sides}
use Rattle.map_tiles.specs.Box.{check_box, character_box}
use Rattle.game_records.specs.Numbers.{input_numbers}
use Rattle.game_records.specs.declared.PlayerInput.{PlayerInput}
use Rattle.game_records.proofs.Back.{input_long}
use Rattle.game_refusals.specs.Refusals.{bad_tuning, bad_hold}
use Rattle.game_tuning.specs.Tuning.{tuning_count, may_tune}
use Rattle.character.specs.Slot.{joined_slot, with_input}
use Rattle.character.specs.Tick.{seats, slot_at}
use Rattle.character.specs.declared.Slot.{Slot}
use Rattle.character_laws.proofs.FromNet.{spawn_representable}
use Rattle.world.specs.World.{with_slot, with_tuning}
use Rattle.world.specs.Calls.{refused, accepted, place_of, is_in_reach, point_of, join_at, join, if_present, vacate, leave, input, tune}
use Rattle.world.specs.Run.{input_of}
use Rattle.world.specs.Removal.{ids_in}
use Rattle.world.specs.Settled.{Settled}
use Rattle.world.specs.Step.{step}
use Rattle.world.specs.Answered.{Answer, Stepped}
use Rattle.world.specs.declared.World.{World}
use Rattle.world.specs.declared.call.Call.{Call}
use Rattle.world.specs.declared.call.Call.TheVariants.{Join, Leave, Input, Step, Tune}
use Rattle.world.proofs.Demand1.{demand1}
use Rattle.world.proofs.Outcomes.{reach_i32}
use Rattle.world_numbers.specs.Encoding.{record_count, world_count, records_count, seat_place, present_numbers, seat_numbers}
use Rattle.world_numbers.specs.Decoding.{is_set, decoding}
use Rattle.world_numbers.proofs.Any.{decoding_settled}
use Rattle.world_numbers.proofs.Encoded.{Kept}
use Rattle.world_numbers.proofs.Parts.{input-put}
use Rattle.world_numbers.proofs.Seats.{seat_is}
use Rattle.world_numbers.proofs.Written.{row_at, row_long, tuning_set, put_written, written-decoding}
use Rattle.world_buffers.specs.Buffers.{LeftWorld, refused_in, accepted_in, tune_in, is_there, at_seat, input_in, leave_in, join_at_in, join_in}
use Rattle.world_buffers.specs.Leaving.{vacate_in, remove_in}
use Rattle.world_buffers.specs.Stepping.{StepBuffers, told_in, step_seats, left_by_step, step_in}
use Rattle.world_buffers.specs.Following.{left_of, Stands, CallsStand}
use Rattle.world_buffers.proofs.Answers.{a_world}
use Rattle.world_buffers.proofs.Released.{first_in, present_is, vacate-decoding}
use Rattle.world_buffers.proofs.SeatTurns.{seat_written}
use Rattle.world_buffers.proofs.StepSeats.{step-decoding}

-- a call on numbers answers as one by value
record Agrees (a : LeftWorld) (b : Answer) : Type 0 where
  number : a.number ≡ b.number
  world : decoding seats a.world ≡ b.world

pub joined-kept : (x y : ℤ) → is_in_reach x ≡ true → is_in_reach y ≡ true → Kept (joined_slot (point_of x y))
unfolding point_of
joined-kept x y p q = record { somebody = λ e. spawn_representable x y (reach_i32 x p) (reach_i32 y q); nobody = λ e. absurd (true≢false e) }

module _ (l : List ℤ) (long : length l ≡ world_count) where
  abbrev w : World
  w = decoding seats l

  pub there : (k : ℕ) → k < seats → (slot_at w.slots k).present ≡ is_there l k
  there k h = ap (λ (x : Slot). x.present) (seat_is seats k l h) ∙ present_is (row_at l k) (is_there l k) (ap is_set (sym (first_in l k)))

  of_world_lem : (a : LeftWorld) (b : Answer) → Agrees a b → Agrees (cond (eqb (length l) world_count) a (refused_in l 17)) b
  of_world_lem a b h = subst (λ (x : LeftWorld). Agrees x b) (sym (a_world l a long)) h

  -- ---- tune
  tune_agrees : (index z : ℤ) → Agrees (tune_in l index z) (tune w index z)
  unfolding tune_in tune
  tune_agrees index z = of_world_lem _ _ (go (ltb k tuning_count) (may_tune k z) refl)
    where
      k : ℕ
      k = place_of tuning_count index

      go : (b c : Bool) → ltb k tuning_count ≡ b → Agrees (cond b (cond c (accepted_in (set l k z)) (refused_in l bad_hold)) (refused_in l bad_tuning)) (cond b (cond c (accepted (with_tuning w k z)) (refused w bad_hold)) (refused w bad_tuning))
      go true true e = record { number = refl; world = tuning_set seats k l z (ltb-true k tuning_count e) }
      go true false e = record { number = refl; world = refl }
      go false c e = record { number = refl; world = refl }

  -- ---- leave and input
  seat_agrees : (id : ℤ) (next : ℕ → List ℤ) (v : ℕ → World) → ((k : ℕ) → k < seats → is_there l k ≡ true → decoding seats (next k) ≡ v k) → let k = place_of seats id in Agrees (at_seat l id next) (cond (ltb k seats) (if_present w k (v k)) (refused w 2))
  seat_agrees id next v f = of_world_lem _ _ (go (ltb k seats) refl)
    where
      k : ℕ
      k = place_of seats id

      on : (b : Bool) → k < seats → is_there l k ≡ b → Agrees (cond b (accepted_in (next k)) (refused_in l 8)) (cond b (accepted (v k)) (refused w 8))
      on true h e = record { number = refl; world = f k h e }
      on false h e = record { number = refl; world = refl }

      go : (b : Bool) → ltb k seats ≡ b → Agrees (cond b (cond (is_there l k) (accepted_in (next k)) (refused_in l 8)) (refused_in l 2)) (cond b (if_present w k (v k)) (refused w 2))
      go true e = let h = ltb-true k seats e in subst (λ (b : Bool). Agrees (cond (is_there l k) (accepted_in (next k)) (refused_in l 8)) (cond b (accepted (v k)) (refused w 8))) (sym (there k h)) (on (is_there l k) h refl)
      go false e = record { number = refl; world = refl }

  input-decoding : (i : PlayerInput) (k : ℕ) → k < seats → is_there l k ≡ true → decoding seats (put l (seat_place k + record_count) (input_numbers i)) ≡ with_slot w k (with_input (slot_at w.slots k) i)
  input-decoding i k h e =
      let m = put l (seat_place k + record_count) (input_numbers i) in
      written-decoding seats l long k _ m h (put_written seats l long k record_count (input_numbers i) h (omega (arith, input_long i)))
      ∙ ap (with_slot w k) (input-put (row_at l k) (row_long seats k l long h) i (ap is_set (sym (first_in l k)) ∙ e) ∙ ap (λ (x : Slot). with_input x i) (sym (seat_is seats k l h)))

  input_agrees : (id : ℤ) (i : PlayerInput) → Agrees (input_in l id i) (input seats w id i)
  unfolding input_in input
  input_agrees id i = seat_agrees id (λ k. put l (seat_place k + record_count) (input_numbers i)) (λ k. with_slot w k (with_input (slot_at w.slots k) i)) (input-decoding i)

  leave_agrees : (id : ℤ) → Agrees (leave_in l id) (leave seats w id)
  unfolding leave_in leave
  leave_agrees id = seat_agrees id (vacate_in l) (vacate w) (λ k h e. vacate-decoding k h l long)

  -- ---- join
  module _ (s : Sides) (ts : List ℕ) where
    join-at-agrees : (k : ℕ) (p : vec2) → k < seats → Kept (joined_slot p) → Agrees (join_at_in s ts l k p) (join_at w s ts k p)
    unfolding join_at_in join_at seat_numbers
    join-at-agrees k p h q = subst (λ (b : Bool). Agrees (join_at_in s ts l k p) (cond (check_box s ts p character_box) (refused w 5) (cond b (refused w 7) (accepted (with_slot w k (joined_slot p)))))) (sym (there k h)) (go (check_box s ts p character_box) (is_there l k))
      where
        go : (b c : Bool) → Agrees (cond b (refused_in l 5) (cond c (refused_in l 7) (accepted_in (put l (seat_place k) (present_numbers (joined_slot p)))))) (cond b (refused w 5) (cond c (refused w 7) (accepted (with_slot w k (joined_slot p)))))
        go true c = record { number = refl; world = refl }
        go false true = record { number = refl; world = refl }
        go false false = record { number = refl; world = written-decoding seats l long k (joined_slot p) _ h (seat_written seats l long k (joined_slot p) h q) }

    join-agrees : (id x y : ℤ) → Agrees (join_in s ts l id x y) (join seats w s ts id x y)
    unfolding join_in join
    join-agrees id x y = of_world_lem _ _ (go (is_map s ts) (ltb k seats) (is_in_reach x) (is_in_reach y) refl refl refl)
      where
        k : ℕ
        k = place_of seats id

        go : (b c d e : Bool) → ltb k seats ≡ c → is_in_reach x ≡ d → is_in_reach y ≡ e → Agrees (cond b (cond c (cond (d && e) (join_at_in s ts l k (point_of x y)) (refused_in l 4)) (refused_in l 2)) (refused_in l 1)) (cond b (cond c (cond (d && e) (join_at w s ts k (point_of x y)) (refused w 4)) (refused w 2)) (refused w 1))
        go false c d e h p q = record { number = refl; world = refl }
        go true false d e h p q = record { number = refl; world = refl }
        go true true false e h p q = record { number = refl; world = refl }
        go true true true false h p q = record { number = refl; world = refl }
        go true true true true h p q = join-at-agrees k (point_of x y) (ltb-true k seats h) (joined-kept x y p q)

    -- ---- step
    step-agrees : (b : StepBuffers) → length b.records ≡ records_count → length b.removed ≡ seats → Settled seats w → let a = step seats w s ts in Agrees (left_of (step_in s ts l b)) (record { number = a.number; world = a.world })
    unfolding step_in left_by_step
    step-agrees b r m h = rw (eq-eqb (length l) world_count long, eq-eqb (length b.records) records_count r, eq-eqb (length b.removed) seats m) (go (eqb (step seats w s ts).number 0) refl)
      where
        a : Stepped
        a = step seats w s ts

        go : (c : Bool) → eqb a.number 0 ≡ c → Agrees (left_of (cond c (record { number = 0; world = remove_in (step_seats a l) (ids_in a.removed); told = told_in a }) (record { number = a.number; world = l; told = b }))) (record { number = a.number; world = a.world })
        go true e = let z = eqb-true a.number 0 e in record { number = sym z; world = step-decoding l long s ts h z }
        go false e = record { number = refl; world = sym (demand1 seats s ts w Step (eqb-false a.number 0 e)) }

-- every call, where what the numbers stand for is settled
pub stands : (s : Sides) (ts : List ℕ) (b : StepBuffers) (l : List ℤ) (c : Call) → length l ≡ world_count → length b.records ≡ records_count → length b.removed ≡ seats → Settled seats (decoding seats l) → Stands s ts b l c
stands s ts b l (Join id x y) h r m q = let a = join-agrees l h s ts id x y in record { number = a.number; world = a.world }
stands s ts b l (Leave id) h r m q = let a = leave_agrees l h id in record { number = a.number; world = a.world }
stands s ts b l (Input id d x y j u) h r m q = let a = input_agrees l h id (input_of d x y j u) in record { number = a.number; world = a.world }
stands s ts b l (Tune index z) h r m q = let a = tune_agrees l h index z in record { number = a.number; world = a.world }
stands s ts b l Step h r m q = let a = step-agrees l h s ts b r m q in record { number = a.number; world = a.world }

pub calls_stand : CallsStand
calls_stand s ts b l c h r m i = stands s ts b l c h r m (decoding_settled seats l h i)
