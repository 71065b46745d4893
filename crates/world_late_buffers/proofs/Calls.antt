-- The calls but step, as changes of a world's numbers by what they are for. Assumes nothing.
use Prim.Native.Nat.{ℕ, ◌+◌, ◌<◌}
use mathlib.Core.Bool.{Bool, true, false, cond, ◌&&◌, true≢false}
use mathlib.Core.List.{List}
use mathlib.Core.Path.{◌≡◌, refl, sym, ap, ◌∙◌}
use native.Mathlib.Omega.{arith}
use lib.Dec.{eqb, ltb}
use lib.IntN.{ℤ}
use lib.ListN.{length, set, length-set}
use borrow.Author.Tests.{ltb-true, eqb-true}
use Rattle.base_rows.specs.Put.{put}
use Rattle.map_tiles.specs.Map.{is_map}
use Rattle.map_tiles.specs.declared.tiles.Sides.{Sides}
use Rattle.map_tiles.specs.Box.{check_box, character_box}
use Rattle.game_records.specs.Numbers.{input_numbers}
use Rattle.game_records.specs.declared.PlayerInput.{PlayerInput}
use Rattle.game_tuning.specs.Tuning.{tuning_count, may_tune}
use Rattle.character.specs.Slot.{joined_slot}
use Rattle.character.specs.Tick.{seats}
use Rattle.world.specs.declared.call.Call.{Call}
use Rattle.world.specs.declared.call.Call.TheVariants.{Join, Leave, Input, Step, Tune}
use Rattle.world.specs.Calls.{place_of, is_in_reach, point_of}
use Rattle.world.specs.Run.{input_of}
use Rattle.world.proofs.Seats.{by_test}
use Rattle.world_numbers.specs.Encoding.{record_count, world_count, seat_place, present_numbers}
use Rattle.world_buffers.specs.Buffers.{LeftWorld, refused_in, accepted_in, has, of_world, tune_in, is_there, at_seat, input_in, leave_in, join_at_in, join_in}
use Rattle.world_buffers.specs.Leaving.{vacate_in}
use Rattle.world_buffers.specs.Stepping.{StepBuffers}
use Rattle.world_buffers.specs.Following.{left_by}
use Rattle.world_late.specs.Late.{subject_of}
use Rattle.world_late.proofs.Changes.{Change, left}
use Rattle.world_late.proofs.Actions.{joining, leaving, storing}
use Rattle.world_late.proofs.Subjects.{Named, At, change_at}
use Rattle.world_late_buffers.proofs.Actions.{act_in, act_size, else_there, tuned_there}

-- an input's numbers at the seat k
abbrev pub stored_in : List ℤ → PlayerInput → ℕ → List ℤ
stored_in l i k = put l (seat_place k + record_count) (input_numbers i)

-- ---- what becomes of a call on l: refused, or under what was tested the numbers m
pub record Decided (l m : List ℤ) (F : Type 0) (a : LeftWorld) : Type 0 where
  pub world : a.world ≡ cond (eqb a.number 0) m l
  pub facts : a.number ≡ 0 → F

abbrev Within : List ℤ → ℕ → ℕ → Type 0
Within l k n = (length l ≡ world_count) × (k < n)

module _ (l m : List ℤ) (F : Type 0) where
  yes_in : F → Decided l m F (accepted_in m)
  yes_in f = record { world = refl; facts = λ z. f }

  of_world_lem : (a : LeftWorld) → (length l ≡ world_count → Decided l m F a) → Decided l m F (of_world l a)
  of_world_lem a f = by_test (Decided l m F) (has world_count l) (λ e. f (eqb-true (length l) world_count e)) (λ e. record { world = refl; facts = λ z. absurd (omega arith) })

module _ (l : List ℤ) where
  seat_decided : (id : ℤ) (next : ℕ → List ℤ) → let k = place_of seats id in Decided l (next k) (Within l k seats) (at_seat l id next)
  seat_decided id next =
      let k = place_of seats id in
      let D : LeftWorld → Type 0 = Decided l (next k) (Within l k seats) in
      of_world_lem l (next k) (Within l k seats) _ (λ h. by_test D (ltb k seats) (λ e. by_test D (is_there l k) (λ f. yes_in l (next k) _ (h, ltb-true k seats e)) (λ f. record { world = refl; facts = λ z. absurd (omega arith) })) (λ e. record { world = refl; facts = λ z. absurd (omega arith) }))

  pub leave_decided : (id : ℤ) → let k = place_of seats id in Decided l (vacate_in l k) (Within l k seats) (leave_in l id)
  unfolding leave_in
  leave_decided id = seat_decided id (vacate_in l)

  pub input_decided : (id : ℤ) (i : PlayerInput) → let k = place_of seats id in Decided l (stored_in l i k) (Within l k seats) (input_in l id i)
  unfolding input_in
  input_decided id i = seat_decided id (stored_in l i)

  pub tune_decided : (index z : ℤ) → let k = place_of tuning_count index in Decided l (set l k z) (Within l k tuning_count) (tune_in l index z)
  unfolding tune_in
  tune_decided index z =
      let k = place_of tuning_count index in
      let D : LeftWorld → Type 0 = Decided l (set l k z) (Within l k tuning_count) in
      of_world_lem l (set l k z) (Within l k tuning_count) _ (λ h. by_test D (ltb k tuning_count) (λ e. by_test D (may_tune k z) (λ f. yes_in l (set l k z) _ (h, ltb-true k tuning_count e)) (λ f. record { world = refl; facts = λ q. absurd (omega arith) })) (λ e. record { world = refl; facts = λ q. absurd (omega arith) }))

  pub join_decided : (s : Sides) (ts : List ℕ) (id x y : ℤ) → let k = place_of seats id in Decided l (put l (seat_place k) (present_numbers (joined_slot (point_of x y)))) (Within l k seats) (join_in s ts l id x y)
  unfolding join_in join_at_in
  join_decided s ts id x y =
      let k = place_of seats id in
      let p = point_of x y in
      let m = put l (seat_place k) (present_numbers (joined_slot p)) in
      let D : LeftWorld → Type 0 = Decided l m (Within l k seats) in
      of_world_lem l m (Within l k seats) _ (λ h.
      by_test D (is_map s ts)
      (λ a. by_test D (ltb k seats)
      (λ e. by_test D (is_in_reach x && is_in_reach y)
      (λ c. by_test D (check_box s ts p character_box) (λ d. record { world = refl; facts = λ z. absurd (omega arith) }) (λ d. by_test D (is_there l k) (λ f. record { world = refl; facts = λ z. absurd (omega arith) }) (λ f. yes_in l m _ (h, ltb-true k seats e))))
      (λ c. record { world = refl; facts = λ z. absurd (omega arith) }))
      (λ e. record { world = refl; facts = λ z. absurd (omega arith) }))
      (λ a. record { world = refl; facts = λ z. absurd (omega arith) }))

-- ---- in which number a call ends, by how many numbers there are and who is at the seat that it names
module _ (l m : List ℤ) (size : length l ≡ length m) where
  world_number : (a c : LeftWorld) → a.number ≡ c.number → (of_world l a).number ≡ (of_world m c).number
  world_number a c e = ap (λ (i : ℕ). (cond (eqb i world_count) a (refused_in l 17)).number) size ∙ go (has world_count m)
    where
      go : (b : Bool) → (cond b a (refused_in l 17)).number ≡ (cond b c (refused_in m 17)).number
      go true = e
      go false = refl

  -- two tests with one outcome
  both : (a b : Bool) (t u x y : LeftWorld) → a ≡ b → t.number ≡ u.number → x.number ≡ y.number → (cond a t x).number ≡ (cond b u y).number
  both true true t u x y e p q = p
  both false false t u x y e p q = q
  both true false t u x y e p q = absurd (true≢false e)
  both false true t u x y e p q = absurd (true≢false (sym e))

  -- a test that is one for both
  same_test : (b : Bool) (t u x y : LeftWorld) → (b ≡ true → t.number ≡ u.number) → x.number ≡ y.number → (cond b t x).number ≡ (cond b u y).number
  same_test true t u x y p q = p refl
  same_test false t u x y p q = q

  pub tune_number : (index z : ℤ) → (tune_in l index z).number ≡ (tune_in m index z).number
  unfolding tune_in
  tune_number index z = let k = place_of tuning_count index in world_number _ _ (same_test (ltb k tuning_count) _ _ _ _ (λ e. same_test (may_tune k z) _ _ _ _ (λ f. refl) refl) refl)

  module _ (id : ℤ) (there : let k = place_of seats id in k < seats → is_there l k ≡ is_there m k) where
    seat_number : (f g : ℕ → List ℤ) → (at_seat l id f).number ≡ (at_seat m id g).number
    seat_number f g = let k = place_of seats id in world_number _ _ (same_test (ltb k seats) _ _ _ _ (λ e. both (is_there l k) (is_there m k) _ _ _ _ (there (ltb-true k seats e)) refl refl) refl)

    pub leave_number : (leave_in l id).number ≡ (leave_in m id).number
    unfolding leave_in
    leave_number = seat_number (vacate_in l) (vacate_in m)

    pub input_number : (i : PlayerInput) → (input_in l id i).number ≡ (input_in m id i).number
    unfolding input_in
    input_number i = seat_number (stored_in l i) (stored_in m i)

    pub join_number : (s : Sides) (ts : List ℕ) (x y : ℤ) → (join_in s ts l id x y).number ≡ (join_in s ts m id x y).number
    unfolding join_in join_at_in
    join_number s ts x y =
        let k = place_of seats id in
        world_number _ _ (
        same_test (is_map s ts) _ _ _ _ (λ a.
        same_test (ltb k seats) _ _ _ _ (λ e.
        same_test (is_in_reach x && is_in_reach y) _ _ _ _ (λ c.
        same_test (check_box s ts (point_of x y) character_box) _ _ _ _ (λ d. refl) (both (is_there l k) (is_there m k) _ _ _ _ (there (ltb-true k seats e)) refl refl)) refl) refl) refl)

-- ---- each call
abbrev pub Fits : List ℤ → Type 0
Fits l = length l ≡ world_count

abbrev pub tuned_in : ℕ → ℤ → List ℤ → List ℤ
tuned_in i z l = set l i z

module _ (s : Sides) (ts : List ℕ) (b : StepBuffers) where
  abbrev pub number_in : Call → List ℤ → ℕ
  number_in c l = (left_by s ts b l c).number

  unfoldable pub call_at : (c : Call) → At seats Fits act_in tuned_in number_in c (subject_of c)
  call_at (Join id x y) = record {
    action = joining (point_of x y);
    elsewhere = λ j e l h q d. join_number (act_in j e l) l (act_size l h j q e ∙ sym h) id (λ k. else_there l h j q e (place_of seats id) k d) s ts x y;
    untuned = λ i z l h q. join_number (set l i z) l (length-set l i z) id (λ k. tuned_there l i z q (place_of seats id)) s ts x y;
    fits = λ l z. ((join_decided l s ts id x y).facts z).0;
    known = λ l z. ((join_decided l s ts id x y).facts z).1;
  }
  call_at (Leave id) = record {
    action = leaving;
    elsewhere = λ j e l h q d. leave_number (act_in j e l) l (act_size l h j q e ∙ sym h) id (λ k. else_there l h j q e (place_of seats id) k d);
    untuned = λ i z l h q. leave_number (set l i z) l (length-set l i z) id (λ k. tuned_there l i z q (place_of seats id));
    fits = λ l z. ((leave_decided l id).facts z).0;
    known = λ l z. ((leave_decided l id).facts z).1;
  }
  call_at (Input id d x y j u) = record {
    action = storing (input_of d x y j u);
    elsewhere = λ k e l h q r. input_number (act_in k e l) l (act_size l h k q e ∙ sym h) id (λ i. else_there l h k q e (place_of seats id) i r) (input_of d x y j u);
    untuned = λ i z l h q. input_number (set l i z) l (length-set l i z) id (λ k. tuned_there l i z q (place_of seats id)) (input_of d x y j u);
    fits = λ l z. ((input_decided l id (input_of d x y j u)).facts z).0;
    known = λ l z. ((input_decided l id (input_of d x y j u)).facts z).1;
  }
  call_at (Tune index y) = record {
    value = y;
    anywhere = λ j e l h q. tune_number (act_in j e l) l (act_size l h j q e ∙ sym h) index y;
    untuned = λ i z l h q. tune_number (set l i z) l (length-set l i z) index y;
    fits = λ l z. ((tune_decided l index y).facts z).0;
    known = λ l z. ((tune_decided l index y).facts z).1;
  }
  call_at Step = tt

  abbrev pub change_in : Call → Change (List ℤ)
  change_in c = change_at seats Fits act_in tuned_in number_in c (subject_of c) (call_at c)

  -- a call is its change
  pub leaves_in : (c : Call) → Named (subject_of c) → (l : List ℤ) → (left_by s ts b l c).world ≡ left (change_in c) l
  unfolding call_at
  leaves_in (Join id x y) h l = (join_decided l s ts id x y).world
  leaves_in (Leave id) h l = (leave_decided l id).world
  leaves_in (Input id d x y j u) h l = (input_decided l id (input_of d x y j u)).world
  leaves_in (Tune index z) h l = (tune_decided l index z).world
  leaves_in Step h l = absurd h
