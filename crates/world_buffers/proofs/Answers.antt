-- What calls leave in a world's buffer, by the tests that decide it. Assumes nothing.
use Prim.Native.Nat.{ℕ, ◌≤◌, ◌<◌}
use mathlib.Core.Bool.{Bool, true, false, cond}
use mathlib.Core.List.{List}
use mathlib.Core.Path.{◌≡◌, refl}
use lib.Dec.{ltb}
use lib.IntN.{ℤ}
use lib.ListN.{length, set}
use borrow.Author.Tests.{eq-eqb, ne_eqb, lt-ltb, le-ltb, eqb-true, ltb-true}
use Rattle.std.specs.Prelude.{Result, Ok, Err}
use Rattle.base_rows.specs.Put.{put}
use Rattle.num_vec2.specs.declared.vec2.{vec2}
use Rattle.game_refusals.specs.Refusals.{bad_map, bad_id, bad_tuning, out_of_reach, not_clear, already_present, not_present, bad_hold, bad_length, number_of}
use Rattle.game_refusals.specs.declared.Refusal.{Refusal}
use Rattle.game_refusals.specs.declared.Refusal.TheVariants.{BadId, Absent, BadLength}
use Rattle.map_tiles.specs.Map.{is_map}
use Rattle.map_tiles.specs.declared.tiles.Sides.{Sides}
use Rattle.map_tiles.specs.Box.{check_box, character_box}
use Rattle.game_tuning.specs.Tuning.{tuning_count, may_tune}
use Rattle.character.specs.Slot.{joined_slot}
use Rattle.character.specs.Tick.{seats}
use Rattle.world.specs.Calls.{place_of, is_in_reach, point_of}
use Rattle.world_numbers.specs.Encoding.{world_count, seat_place, present_numbers}
use Rattle.world_buffers.specs.Buffers.{LeftWorld, has, refused_in, accepted_in, of_world, tune_in, is_there, present_in, at_seat, join_at_in, join_in}

-- ---- the length
module _ (l : List ℤ) (a : LeftWorld) where
  pub no_world : (length l ≡ world_count → ⊥) → of_world l a ≡ refused_in l bad_length
  no_world h = rw (ne_eqb (length l) world_count h)

  pub a_world : length l ≡ world_count → of_world l a ≡ a
  a_world h = rw (eq-eqb (length l) world_count h)

-- ---- a tuning
module _ (l : List ℤ) (index z : ℤ) (k : ℕ) (h : length l ≡ world_count) (p : k ≡ place_of tuning_count index) where
  pub not_tuned : tuning_count ≤ k → tune_in l index z ≡ refused_in l bad_tuning
  unfolding tune_in
  not_tuned g = rw (eq-eqb (length l) world_count h, ← p, le-ltb k tuning_count g)

  pub no_hold : k < tuning_count → may_tune k z ≡ false → tune_in l index z ≡ refused_in l bad_hold
  unfolding tune_in
  no_hold g t = rw (eq-eqb (length l) world_count h, ← p, lt-ltb k tuning_count g, t)

  pub tuned : (m : List ℤ) → k < tuning_count → may_tune k z ≡ true → m ≡ set l k z → tune_in l index z ≡ accepted_in m
  unfolding tune_in
  tuned m g t e = rw (eq-eqb (length l) world_count h, ← p, lt-ltb k tuning_count g, t, e)

-- ---- the seat k, which an id names
module _ (l : List ℤ) (id : ℤ) (next : ℕ → List ℤ) (k : ℕ) (h : length l ≡ world_count) (p : k ≡ place_of seats id) where
  pub no_seat : seats ≤ k → at_seat l id next ≡ refused_in l bad_id
  no_seat g = rw (eq-eqb (length l) world_count h, ← p, le-ltb k seats g)

  pub nobody : k < seats → is_there l k ≡ false → at_seat l id next ≡ refused_in l not_present
  nobody g e = rw (eq-eqb (length l) world_count h, ← p, lt-ltb k seats g, e)

  pub somebody : (m : List ℤ) → k < seats → is_there l k ≡ true → m ≡ next k → at_seat l id next ≡ accepted_in m
  somebody m g e q = rw (eq-eqb (length l) world_count h, ← p, lt-ltb k seats g, e, q)

-- ---- the seat of somebody who is there

-- somebody is at the seat k, which the id names
pub record Seat (l : List ℤ) (id : ℤ) (k : ℕ) : Type 0 where
  pub long : length l ≡ world_count
  pub place : k ≡ place_of seats id
  pub seat : k < seats
  pub there : is_there l k ≡ true

module _ (l : List ℤ) (id : ℤ) where
  pub is_present : (k : ℕ) → Ok k ≡ present_in l id → Seat l id k
  is_present k h = go (has world_count l) (ltb (place_of seats id) seats) (is_there l (place_of seats id)) refl refl refl h
    where
      go : (a b c : Bool) → has world_count l ≡ a → ltb (place_of seats id) seats ≡ b → is_there l (place_of seats id) ≡ c → ◌≡◌ {A = Result ℕ Refusal} (Ok k) (cond a (cond b (cond c (Ok (place_of seats id)) (Err Absent)) (Err BadId)) (Err BadLength)) → Seat l id k
      go true true true p q r e = let f : k ≡ place_of seats id = cc in record { long = eqb-true _ _ p; place = f; seat = rw f (ltb-true _ _ q); there = rw f r }
      go true true false p q r e = absurd cc
      go true false c p q r e = absurd cc
      go false b c p q r e = absurd cc

  pub is_absent : (next : ℕ → List ℤ) (refusal : Refusal) → Err refusal ≡ present_in l id → at_seat l id next ≡ refused_in l (number_of refusal)
  is_absent next refusal h = go (has world_count l) (ltb (place_of seats id) seats) (is_there l (place_of seats id)) h
    where
      go : (a b c : Bool) → ◌≡◌ {A = Result ℕ Refusal} (Err refusal) (cond a (cond b (cond c (Ok (place_of seats id)) (Err Absent)) (Err BadId)) (Err BadLength)) → cond a (cond b (cond c (accepted_in (next (place_of seats id))) (refused_in l not_present)) (refused_in l bad_id)) (refused_in l bad_length) ≡ refused_in l (number_of refusal)
      go true true true e = absurd cc
      go true true false e = let f : refusal ≡ Absent = cc in rw f refl
      go true false c e = let f : refusal ≡ BadId = cc in rw f refl
      go false b c e = let f : refusal ≡ BadLength = cc in rw f refl

-- ---- join
module _ (s : Sides) (ts : List ℕ) (l : List ℤ) (k : ℕ) (p : vec2) where
  pub blocked : check_box s ts p character_box ≡ true → join_at_in s ts l k p ≡ refused_in l not_clear
  unfolding join_at_in
  blocked e = rw e

  module _ (e : check_box s ts p character_box ≡ false) where
    pub taken : is_there l k ≡ true → join_at_in s ts l k p ≡ refused_in l already_present
    unfolding join_at_in
    taken f = rw (e, f)

    pub seated : (m : List ℤ) → is_there l k ≡ false → m ≡ put l (seat_place k) (present_numbers (joined_slot p)) → join_at_in s ts l k p ≡ accepted_in m
    unfolding join_at_in
    seated m f q = rw (e, f, q)

module _ (s : Sides) (ts : List ℕ) (l : List ℤ) (id x y : ℤ) (h : length l ≡ world_count) where
  pub no_map : is_map s ts ≡ false → join_in s ts l id x y ≡ refused_in l bad_map
  unfolding join_in
  no_map e = rw (eq-eqb (length l) world_count h, e)

  module _ (e : is_map s ts ≡ true) (k : ℕ) (p : k ≡ place_of seats id) where
    pub join-nowhere : seats ≤ k → join_in s ts l id x y ≡ refused_in l bad_id
    unfolding join_in
    join-nowhere g = rw (eq-eqb (length l) world_count h, e, ← p, le-ltb k seats g)

    module _ (g : k < seats) where
      pub x-far : is_in_reach x ≡ false → join_in s ts l id x y ≡ refused_in l out_of_reach
      unfolding join_in
      x-far f = rw (eq-eqb (length l) world_count h, e, ← p, lt-ltb k seats g, f)

      pub y-far : is_in_reach x ≡ true → is_in_reach y ≡ false → join_in s ts l id x y ≡ refused_in l out_of_reach
      unfolding join_in
      y-far f j = rw (eq-eqb (length l) world_count h, e, ← p, lt-ltb k seats g, f, j)

      pub in_reach : (a : LeftWorld) → is_in_reach x ≡ true → is_in_reach y ≡ true → join_at_in s ts l k (point_of x y) ≡ a → join_in s ts l id x y ≡ a
      unfolding join_in
      in_reach a f j q = rw (eq-eqb (length l) world_count h, e, ← p, lt-ltb k seats g, f, j) q
