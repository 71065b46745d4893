-- What the calls of a sender leave in their buffers, by the tests that decide it. Assumes nothing.
use Prim.Native.Nat.{ℕ, ◌-◌, ◌≤◌}
use mathlib.Core.Bool.{Bool, true, false, cond}
use mathlib.Core.List.{List, [], map}
use mathlib.Core.Path.{◌≡◌, refl, sym, ap, ap₂, ◌∙◌}
use Rattle.std.specs.Prelude.{Result, Ok, Err}
use Rattle.game_refusals.specs.declared.Refusal.{Refusal}
use Rattle.game_refusals.specs.declared.Refusal.TheVariants.{BadLength}
use native.Mathlib.Omega.{arith}
use lib.IntN.{ℤ}
use lib.ListN.{length, replicate, length-append, length-map, length-replicate}
use borrow.Author.Tests.{eq-eqb, ne_eqb}
use Rattle.base_rows.specs.Put.{put}
use Rattle.game_refusals.specs.Refusals.{bad_length}
use Rattle.map_tiles.specs.Map.{sides_of}
use Rattle.map_tiles.specs.declared.tiles.Sides.{Sides}
use Rattle.character.specs.Tick.{seats}
use Rattle.world.specs.Run.{ran}
use Rattle.world.specs.declared.call.Call.{Call}
use Rattle.world.specs.declared.call.Call.TheVariants.{Step}
use Rattle.world.specs.Answered.{Stepped}
use Rattle.send_rule.specs.Send.{Sent, send, item, filled, most_passed, sending_of}
use Rattle.send_rule.specs.declared.Sending.{Sending}
use Rattle.send_rule.specs.declared.Passed.TheVariants as passed
use Rattle.send_calls.specs.Sending.{sent_in}
use Rattle.send_calls.proofs.Accepted.{sent_back}
use Rattle.world_numbers.specs.Encoding.{world_count, records_count}
use Rattle.world_numbers.specs.Decoding.{decoding}
use Rattle.send_numbers.specs.Copies.{sender_count, copies_encoding, copies_decoding}
use Rattle.send_numbers.specs.Passing.{passed_count, all_numbers}
use Rattle.world_buffers.specs.Buffers.{LeftWorld, refused_in}
use Rattle.world_buffers.specs.Stepping.{StepBuffers, LeftByStep, left_by_step}
use Rattle.world_buffers.proofs.StepAnswers.{right_lengths}
use Rattle.send_buffers.specs.Sends.{fresh_buffer, SenderBuffers, keep_sent, passes, room_in, passed_in, send_in, send_step_in}
use Rattle.game_refusals.specs.Refusals.{number_of_answer}
use Rattle.world.specs.Step.{stepped, stepped_in}
use Rattle.world.specs.declared.AfterStep.{AfterStep}
use Rattle.world.specs.declared.Records.{Records}
use Rattle.world.specs.declared.World.{World}

-- ---- before any call
module _ (n : ℕ) (new l : List ℤ) where
  pub fresh_wrong : (length l ≡ n → ⊥) → fresh_buffer n new l ≡ record { number = bad_length; numbers = l }
  unfolding fresh_buffer
  fresh_wrong h = rw (ne_eqb (length l) n h)

  pub fresh_right : (m : List ℤ) → length l ≡ n → m ≡ new → fresh_buffer n new l ≡ record { number = 0; numbers = m }
  unfolding fresh_buffer
  fresh_right m h e = rw (eq-eqb (length l) n h, e)

-- ---- what is passed along
module _ (b : SenderBuffers) (number : ℕ) (m : Sent) where
  pub sent_kept : (u v : List ℤ) (k : ℕ) → number ≡ 0 → u ≡ copies_encoding m.copies → (v ≡ put b.passed 0 (all_numbers m.passed)) × (k ≡ length (all_numbers m.passed)) → keep_sent b number m ≡ record { sender = u; passed = v; count = k }
  unfolding keep_sent
  sent_kept u v k z e f = rw (z, e, f.0, f.1)

  pub sent_left : (number ≡ 0 → ⊥) → keep_sent b number m ≡ b
  unfolding keep_sent
  sent_left z = rw (ne_eqb number 0 z)

-- the number of a call's answer, by value and in place
pub number_same : (w : World) (r : Result AfterStep Refusal) → number_of_answer r ≡ (stepped seats w r).number
number_same w (Ok a) = refl
number_same w (Err e) = refl

pub number_same_in : (w : World) (r : Result Records Refusal) → number_of_answer r ≡ (stepped_in seats w r).number
number_same_in w (Ok a) = refl
number_same_in w (Err e) = refl

-- what finds room in an array is no more than that
pub count_fits : (m : Sent) (x : Sending) → x ≡ sending_of seats m → length x.items ≡ most_passed seats → x.count ≤ most_passed seats
unfolding filled
count_fits m x e h =
    let k : x.count ≡ length m.passed = ap (λ (y : Sending). y.count) e in
    let l : length x.items ≡ length (filled (most_passed seats) m.passed) = ap (λ (y : Sending). length y.items) e in
    omega (arith, length-append (map item m.passed) (replicate (most_passed seats - length m.passed) (item passed.Mark)), length-map m.passed item, length-replicate (most_passed seats - length m.passed) (item passed.Mark))

-- ---- a call that needs no map
module _ (l : List ℤ) (b : SenderBuffers) where
  pub no_world : (length l ≡ world_count → ⊥) → false ≡ passes l b
  no_world h = rw (ne_eqb (length l) world_count h)

  pub no_sender : length l ≡ world_count → (length b.sender ≡ sender_count → ⊥) → false ≡ passes l b
  no_sender h g = rw (eq-eqb (length l) world_count h, ne_eqb (length b.sender) sender_count g)

  pub no_room : length l ≡ world_count → length b.sender ≡ sender_count → (length b.passed ≡ passed_count → ⊥) → false ≡ passes l b
  no_room h g f = rw (eq-eqb (length l) world_count h, eq-eqb (length b.sender) sender_count g, ne_eqb (length b.passed) passed_count f)

  pub all_room : length l ≡ world_count → length b.sender ≡ sender_count → length b.passed ≡ passed_count → true ≡ passes l b
  all_room h g f = rw (eq-eqb (length l) world_count h, eq-eqb (length b.sender) sender_count g, eq-eqb (length b.passed) passed_count f)

module _ (c : Call) (l : List ℤ) (b : SenderBuffers) where
  pub none_passed : false ≡ passes l b → passed_in c l b ≡ b
  unfolding passed_in
  none_passed e = rw (← e)

  pub all_passed : (a : Stepped) (x : Sending) (d : SenderBuffers) → true ≡ passes l b → a ≡ ran seats (sides_of 0 0) [] (decoding seats l) c → x ≡ sending_of seats (send seats (sides_of 0 0) [] (decoding seats l) (copies_decoding seats b.sender) c) → keep_sent b a.number (sent_in x) ≡ d → passed_in c l b ≡ d
  unfolding passed_in
  all_passed a x d e q p t =
      let m : Sent = send seats (sides_of 0 0) [] (decoding seats l) (copies_decoding seats b.sender) c in
      rw (← e) (ap₂ (keep_sent b) (ap (λ (y : Stepped). y.number) (sym q)) (sym (sent_back m x p)) ∙ t)

  module _ (left : LeftWorld) (r : Bool) (d : SenderBuffers) (e : r ≡ passes l b) (p : passed_in c l b ≡ d) where
    pub made : (a : LeftWorld) → r ≡ true → left ≡ a → send_in c left l b ≡ record { left = a; sent = d }
    unfolding send_in
    made a t q = ap₂ (λ (u : LeftWorld) (v : SenderBuffers). record { left = u; sent = v }) (ap (λ (z : Bool). cond z left (refused_in l bad_length)) (sym e ∙ t) ∙ q) p

    pub not_made : r ≡ false → send_in c left l b ≡ record { left = refused_in l bad_length; sent = d }
    unfolding send_in
    not_made t = ap₂ (λ (u : LeftWorld) (v : SenderBuffers). record { left = u; sent = v }) (ap (λ (z : Bool). cond z left (refused_in l bad_length)) (sym e ∙ t)) p

-- ---- the refusal of buffers that have other lengths
module _ (l : List ℤ) (b : SenderBuffers) where
  pub has_no_room : (refusal : Refusal) → Err refusal ≡ room_in l b → (passes l b ≡ false) × (refusal ≡ BadLength)
  has_no_room refusal h = go (passes l b) refl h
    where
      go : (f : Bool) → passes l b ≡ f → ◌≡◌ {A = Result (Unit {0}) Refusal} (Err refusal) (cond f (Ok tt) (Err BadLength)) → (passes l b ≡ false) × (refusal ≡ BadLength)
      go true e q = absurd cc
      go false e q = (e, cc)

  pub has_its_room : (u : Unit {0}) → Ok u ≡ room_in l b → passes l b ≡ true
  has_its_room u h = go (passes l b) refl h
    where
      go : (f : Bool) → passes l b ≡ f → ◌≡◌ {A = Result (Unit {0}) Refusal} (Ok u) (cond f (Ok tt) (Err BadLength)) → passes l b ≡ true
      go true e q = e
      go false e q = absurd cc

-- ---- step
module _ (s : Sides) (ts : List ℕ) (l : List ℤ) (r : StepBuffers) (b : SenderBuffers) where
  pub step_wrong_world : (length l ≡ world_count → ⊥) → send_step_in s ts l r b ≡ record { left = record { number = bad_length; world = l; told = r }; sent = b }
  unfolding send_step_in
  step_wrong_world h = rw (ne_eqb (length l) world_count h)

  pub step_wrong_records : length l ≡ world_count → (length r.records ≡ records_count → ⊥) → send_step_in s ts l r b ≡ record { left = record { number = bad_length; world = l; told = r }; sent = b }
  unfolding send_step_in
  step_wrong_records h g = rw (eq-eqb (length l) world_count h, ne_eqb (length r.records) records_count g)

  module _ (h : length l ≡ world_count) (g : length r.records ≡ records_count) where
    pub step-wrong-removed : (length r.removed ≡ seats → ⊥) → send_step_in s ts l r b ≡ record { left = record { number = bad_length; world = l; told = r }; sent = b }
    unfolding send_step_in
    step-wrong-removed f = rw (eq-eqb (length l) world_count h, eq-eqb (length r.records) records_count g, ne_eqb (length r.removed) seats f)

    module _ (f : length r.removed ≡ seats) where
      pub step-wrong-sender : (length b.sender ≡ sender_count → ⊥) → send_step_in s ts l r b ≡ record { left = record { number = bad_length; world = l; told = r }; sent = b }
      unfolding send_step_in
      step-wrong-sender u = rw (eq-eqb (length l) world_count h, eq-eqb (length r.records) records_count g, eq-eqb (length r.removed) seats f, ne_eqb (length b.sender) sender_count u)

      pub step-wrong-passed : length b.sender ≡ sender_count → (length b.passed ≡ passed_count → ⊥) → send_step_in s ts l r b ≡ record { left = record { number = bad_length; world = l; told = r }; sent = b }
      unfolding send_step_in
      step-wrong-passed u v = rw (eq-eqb (length l) world_count h, eq-eqb (length r.records) records_count g, eq-eqb (length r.removed) seats f, eq-eqb (length b.sender) sender_count u, ne_eqb (length b.passed) passed_count v)

      pub step_right : (a : Stepped) (x : Sending) (e : LeftByStep) (d : SenderBuffers) → length b.sender ≡ sender_count → length b.passed ≡ passed_count → a ≡ ran seats s ts (decoding seats l) Step → x ≡ sending_of seats (send seats s ts (decoding seats l) (copies_decoding seats b.sender) Step) → left_by_step l r a ≡ e → keep_sent b a.number (sent_in x) ≡ d → send_step_in s ts l r b ≡ record { left = e; sent = d }
      unfolding send_step_in
      step_right a x e d u v q p k t =
          let m : Sent = send seats s ts (decoding seats l) (copies_decoding seats b.sender) Step in
          rw (eq-eqb (length l) world_count h, eq-eqb (length r.records) records_count g, eq-eqb (length r.removed) seats f, eq-eqb (length b.sender) sender_count u, eq-eqb (length b.passed) passed_count v)
          (ap₂ (λ (y : LeftByStep) (z : SenderBuffers). record { left = y; sent = z }) (right_lengths s ts l r a e h g f q k) (ap₂ (keep_sent b) (ap (λ (y : Stepped). y.number) (sym q)) (sym (sent_back m x p)) ∙ t))
