-- A buffer that began as a fresh world holds the numbers of the world that its calls reach. Assumes nothing.
use Prim.Native.Nat.{ℕ, ◌+◌, ◌*◌, ◌<◌}
use mathlib.Core.Bool.{Bool, true, false, cond, ◌&&◌, true≢false}
use mathlib.Core.List.{List, [], ◌∷◌}
use mathlib.Core.Path.{◌≡◌, refl, sym, ap, ap₂, ◌∙◌, subst}
use native.Mathlib.Omega.{arith}
use lib.Dec.{eqb, ltb}
use lib.IntN.{ℤ}
use lib.ListN.{length, set, length-set}
use lib.Seq.{drop-set-lt}
use borrow.Author.Tests.{ltb-true, eqb-true}
use Rattle.base_rows.specs.Put.{put}
use Rattle.map_tiles.specs.Map.{is_map}
use Rattle.map_tiles.specs.declared.tiles.Sides.{Sides}
use Rattle.map_tiles.specs.Box.{check_box, character_box}
use Rattle.game_records.specs.Numbers.{number_at, core_numbers, input_numbers}
use Rattle.game_records.specs.declared.PlayerInput.{PlayerInput}
use Rattle.game_records.proofs.Back.{input_long}
use Rattle.game_tuning.specs.Tuning.{tuning_count, may_tune}
use Rattle.world.specs.declared.call.Call.{Call}
use Rattle.world.specs.declared.call.Call.TheVariants.{Join, Leave, Input, Step, Tune}
use Rattle.character.specs.Slot.{joined_slot, with_input}
use Rattle.character.specs.Tick.{seats}
use Rattle.character.specs.declared.Slot.{Slot}
use Rattle.world.specs.World.{fresh}
use Rattle.world.specs.Calls.{place_of, is_in_reach, point_of}
use Rattle.world.specs.Run.{input_of, ran, after}
use Rattle.world.specs.Settled.{Settled}
use Rattle.world.specs.Step.{step}
use Rattle.world.specs.declared.World.{World}
use Rattle.world.proofs.Seats.{by_test}
use Rattle.world.proofs.Settled.{answer-settled, after_settled}
use Rattle.world_numbers.specs.Encoding.{record_count, seat_count, world_count, records_count, seat_place, record_numbers, present_numbers, seat_numbers, encoding}
use Rattle.world_numbers.specs.Decoding.{is_set, decoding, seat_of}
use Rattle.world_numbers.proofs.Encoded.{decoding-encoding}
use Rattle.world_numbers.proofs.Parts.{input-put}
use Rattle.world_numbers.proofs.Rows.{encoding_long}
use Rattle.world_numbers.proofs.Written.{row_at, row_long, put_written, OwnRow, Own, own_encoding, encoding_own}
use Rattle.world_buffers.specs.Buffers.{LeftWorld, has, is_there, tune_in, at_seat, input_in, leave_in, join_at_in, join_in}
use Rattle.world_buffers.specs.Leaving.{vacate_in}
use Rattle.world_buffers.specs.Stepping.{StepBuffers, LeftByStep, left_by_step, step_in}
use Rattle.world_buffers.specs.Following.{left_by, left_by_all, BufferFollows}
use Rattle.world_buffers.proofs.Released.{first_in, present_is, vacate-long, vacate-own}
use Rattle.world_buffers.proofs.SeatTurns.{put_own, seat_written, seat_own}
use Rattle.world_buffers.proofs.StepSeats.{step_long, step_own}
use Rattle.world_buffers.proofs.Stands.{joined-kept, stands}

-- as many numbers as a world has, and every seat's as the library writes them
pub record Proper (l : List ℤ) : Type 0 where
  pub long : length l ≡ world_count
  pub own : Own seats l

pub encoding_proper : (w : World) → Settled seats w → Proper (encoding w)
encoding_proper w h = record { long = encoding_long w ∙ ap₂ (λ (m n : ℕ). m + seat_count * n) h.tunings h.seats; own = encoding_own seats w h }

-- ---- a call on such numbers leaves such
module _ (l : List ℤ) (h : Proper l) where
  abbrev Fine : LeftWorld → Type 0
  Fine a = Proper a.world

  of_world_lem : (a : LeftWorld) → Fine a → Fine (cond (has world_count l) a (record { number = 17; world = l }))
  of_world_lem a q = by_test Fine (has world_count l) (λ e. q) (λ e. h)

  -- tune
  tuned : (index z : ℤ) → Fine (tune_in l index z)
  unfolding tune_in
  tuned index z = let k = place_of tuning_count index in of_world_lem _ (by_test Fine (ltb k tuning_count) (λ e. by_test Fine (may_tune k z) (λ t. written k (ltb-true k tuning_count e)) (λ t. h)) (λ e. h))
    where
      written : (k : ℕ) → k < tuning_count → Proper (set l k z)
      written k q = record { long = length-set l k z ∙ h.long; own = λ j r. subst OwnRow (sym (drop-set-lt (seat_place j) l k z (omega arith))) (h.own j r) }

  -- leave and input
  at_seat_lem : (id : ℤ) (next : ℕ → List ℤ) → ((k : ℕ) → k < seats → is_there l k ≡ true → Proper (next k)) → Fine (at_seat l id next)
  at_seat_lem id next f =
      let k = place_of seats id in
      of_world_lem _ (by_test Fine (ltb k seats) (λ e. by_test Fine (is_there l k) (f k (ltb-true k seats e)) (λ g. h)) (λ e. h))

  -- an input's numbers are those of its seat with the input
  with_input_lem : (i : PlayerInput) (x : Slot) → x.present ≡ true → put (seat_numbers x) record_count (input_numbers i) ≡ seat_numbers (with_input x i)
  unfolding seat_numbers present_numbers record_numbers core_numbers input_numbers put
  with_input_lem i x e = rw e refl

  input_proper : (i : PlayerInput) (k : ℕ) → k < seats → is_there l k ≡ true → Proper (put l (seat_place k + record_count) (input_numbers i))
  input_proper i k q e =
      let n = input_long i in
      let r = row_at l k in
      let p : is_set (number_at r 0) ≡ true = ap is_set (sym (first_in l k)) ∙ e in
      let o = (h.own k q).kept in
      record {
        long = (put_written seats l h.long k record_count (input_numbers i) q (omega arith)).size ∙ h.long;
        own = put_own seats l h.long h.own k record_count (input_numbers i) (with_input (seat_of r) i) q (omega arith) (input-put r (row_long seats k l h.long q) i p) (with_input_lem i (seat_of r) (present_is r true p)) (record { somebody = o.somebody; nobody = λ z. absurd (true≢false (sym (present_is r true p) ∙ z)) });
      }

  -- join
  join_proper : (k : ℕ) (x y : ℤ) → k < seats → is_in_reach x ≡ true → is_in_reach y ≡ true → Proper (put l (seat_place k) (present_numbers (joined_slot (point_of x y))))
  unfolding seat_numbers
  join_proper k x y q a b =
      let s = joined_slot (point_of x y) in
      let o = joined-kept x y a b in
      record { long = (seat_written seats l h.long k s q o).size ∙ h.long; own = seat_own seats l h.long k s q o h.own }

  joined : (s : Sides) (ts : List ℕ) (id x y : ℤ) → Fine (join_in s ts l id x y)
  unfolding join_in join_at_in
  joined s ts id x y =
      let k = place_of seats id in
      of_world_lem _ (by_test Fine (is_map s ts) (λ a. by_test Fine (ltb k seats) (λ b. reach (is_in_reach x) (is_in_reach y) refl refl (ltb-true k seats b)) (λ b. h)) (λ a. h))
    where
      reach : (d e : Bool) → is_in_reach x ≡ d → is_in_reach y ≡ e → place_of seats id < seats → Fine (cond (d && e) (join_at_in s ts l (place_of seats id) (point_of x y)) (record { number = 4; world = l }))
      reach false e p q g = h
      reach true false p q g = h
      reach true true p q g = by_test Fine (check_box s ts (point_of x y) character_box) (λ a. h) (λ a. by_test Fine (is_there l (place_of seats id)) (λ c. h) (λ c. join_proper (place_of seats id) x y g p q))

  -- step
  stepped : (s : Sides) (ts : List ℕ) (b : StepBuffers) → Settled seats (decoding seats l) → Proper (step_in s ts l b).world
  unfolding step_in left_by_step
  stepped s ts b q =
      let a = step seats (decoding seats l) s ts in
      by_test (λ (r : LeftByStep). Proper r.world) (has world_count l && has records_count b.records && has seats b.removed)
      (λ e. by_test (λ (r : LeftByStep). Proper r.world) (eqb a.number 0) (λ f. let z = eqb-true a.number 0 f in record { long = step_long l h.long s ts q z; own = step_own l h.long s ts q z h.own }) (λ f. h))
      (λ e. h)

  pub left_proper : (s : Sides) (ts : List ℕ) (b : StepBuffers) → Settled seats (decoding seats l) → (c : Call) → Fine (left_by s ts b l c)
  unfolding input_in leave_in
  left_proper s ts b q (Join id x y) = joined s ts id x y
  left_proper s ts b q (Leave id) = at_seat_lem id (vacate_in l) (λ k g e. record { long = vacate-long k g l h.long; own = vacate-own k g l h.long h.own })
  left_proper s ts b q (Input id d x y j u) = at_seat_lem id (λ k. put l (seat_place k + record_count) (input_numbers (input_of d x y j u))) (input_proper (input_of d x y j u))
  left_proper s ts b q (Tune index z) = tuned index z
  left_proper s ts b q Step = stepped s ts b q

-- ---- so the numbers of a world become those of the next
module _ (s : Sides) (ts : List ℕ) (b : StepBuffers) (k : length b.records ≡ records_count) (m : length b.removed ≡ seats) where
  -- one call
  pub one : (w : World) (c : Call) → Settled seats w → (left_by s ts b (encoding w) c).world ≡ encoding (ran seats s ts w c).world
  one w c h =
      let l = encoding w in
      let e = decoding-encoding seats w h in
      let q : Settled seats (decoding seats l) = subst (Settled seats) (sym e) h in
      let p = encoding_proper w h in
      let r = left_proper l p s ts b q c in
      sym (own_encoding seats (left_by s ts b l c).world r.long r.own) ∙ ap encoding ((stands s ts b l c p.long k m q).world ∙ ap (λ (v : World). (ran seats s ts v c).world) e)

  pub one_number : (w : World) (c : Call) → Settled seats w → (left_by s ts b (encoding w) c).number ≡ (ran seats s ts w c).number
  one_number w c h =
      let e = decoding-encoding seats w h in
      (stands s ts b (encoding w) c (encoding_proper w h).long k m (subst (Settled seats) (sym e) h)).number ∙ ap (λ (v : World). (ran seats s ts v c).number) e

  all : (w : World) (cs : List Call) → Settled seats w → left_by_all s ts b (encoding w) cs ≡ encoding (after seats s ts w cs)
  all w [] h = refl
  all w (c ∷ cs) h = ap (λ (l : List ℤ). left_by_all s ts b l cs) (one w c h) ∙ all (ran seats s ts w c).world cs (answer-settled seats s ts w c h)

pub buffer_follows : BufferFollows
buffer_follows s ts b cs k m = all s ts b k m (fresh seats) cs (after_settled seats s ts [])
