-- What an accepted step leaves of a world's numbers stands for the next world, and a world's own numbers it leaves its own. Assumes nothing.
use Prim.Native.Nat.{ℕ, ◌+◌, ◌<◌}
use mathlib.Core.Bool.{Bool, true, false, cond, true≢false}
use mathlib.Core.List.{List, [], ◌∷◌, ◌++◌}
use mathlib.Core.Path.{◌≡◌, refl, sym, ap, ap₂, ◌∙◌, subst}
use native.Mathlib.Omega.{arith}
use lib.Dec.{eqb}
use lib.IntN.{ℤ, pos}
use lib.ListN.{length, drop, set, replicate}
use lib.Seq.{ext_get_or}
use borrow.Author.Tests.{eq-eqb}
use Rattle.base_rows.specs.Put.{put}
use Rattle.base_rows.proofs.Puts.{put_one}
use Rattle.map_tiles.specs.declared.tiles.Sides.{Sides}
use Rattle.game_records.specs.Numbers.{number_at, core_numbers, input_numbers}
use Rattle.game_records.specs.declared.CharacterCore.{CharacterCore}
use Rattle.game_records.proofs.Back.{core_long}
use Rattle.game_tuning.specs.Tuning.{tuning_count}
use Rattle.character.specs.Slot.{with_character, with_grounded}
use Rattle.character.specs.Tick.{seats, slot_at, nowhere}
use Rattle.character.specs.Records.{core_of, to_net, from_net, back, quantize}
use Rattle.character.specs.declared.Character.{Character}
use Rattle.character.specs.declared.Slot.{Slot}
use Rattle.character_laws.specs.Representable.{Representable}
use Rattle.character_laws.proofs.FromNet.{back_representable}
use Rattle.world.specs.Demand3.{record_at}
use Rattle.world.specs.Removal.{remove_all, ids_in, is_in}
use Rattle.world.specs.Settled.{Settled}
use Rattle.world.specs.Step.{step}
use Rattle.world.specs.Answered.{Stepped}
use Rattle.world.specs.declared.World.{World}
use Rattle.world.proofs.TakenRecords.{Recorded, step_recorded}
use Rattle.world.proofs.Removal.{listed_ids}
use Rattle.world.proofs.Seats.{by_test}
use Rattle.world_numbers.specs.Encoding.{mark_place, seat_count, world_count, seat_place, flag, net_core, record_numbers, present_numbers, seat_numbers}
use Rattle.world_numbers.specs.Decoding.{is_set, from_zero, readable, seat_of, decoding}
use Rattle.world_numbers.proofs.Encoded.{Kept}
use Rattle.world_numbers.proofs.Parts.{core_put, mark_put}
use Rattle.world_numbers.proofs.RowsIn.{rows_long}
use Rattle.world_numbers.proofs.Seats.{seat_is}
use Rattle.world_numbers.proofs.Written.{row_at, row_long, Written, put_written, Own}
use Rattle.world_buffers.specs.Buffers.{is_there}
use Rattle.world_buffers.specs.Leaving.{vacate_in, remove_in}
use Rattle.world_buffers.specs.Stepping.{seat_written, step_seat, step_seats}
use Rattle.world_buffers.proofs.Gone.{gone_slot, gone_at, gone_tunings, gone_length, gone_marked}
use Rattle.world_buffers.proofs.Listed.{first_of, either_in}
use Rattle.world_buffers.proofs.Released.{first_in, present_is, vacate-long, vacate-decoding, vacate-own}
use Rattle.world_buffers.proofs.SeatTurns.{Turned, turned, turned-own, put_own}
use Rattle.std.specs.Prelude.{Result, Ok}
use Rattle.game_refusals.specs.declared.Refusal.{Refusal}

-- ---- one seat
-- what its slot becomes
abbrev step_slot : CharacterCore → Bool → Slot → Slot
step_slot n g x = cond x.present (with_grounded (with_character x (from_net (readable n))) g) x

written_then : (n j : ℕ) (x y : Slot) (l m k : List ℤ) → Written n j x l m → Written n j y m k → Written n j y l k
written_then n j x y l m k g h = record { size = h.size ∙ g.size; tunings = h.tunings ∙ g.tunings; own = h.own; others = λ i q d. h.others i q d ∙ g.others i q d }

-- who is read as present is marked so
marked_there : (r : List ℤ) → (seat_of r).present ≡ true → is_set (number_at r 0) ≡ true
marked_there r p = go (is_set (number_at r 0)) refl
  where
    go : (b : Bool) → is_set (number_at r 0) ≡ b → is_set (number_at r 0) ≡ true
    go true e = e
    go false e = absurd (true≢false (sym p ∙ present_is r false e))

-- its numbers
record_in : (a n : CharacterCore) (rest : List ℤ) → put (record_numbers (record { present = true; core = a }) ++ rest) 1 (core_numbers n) ≡ record_numbers (record { present = true; core = n }) ++ rest
unfolding record_numbers core_numbers put
record_in a n rest = refl

with_core : (x : Slot) (n : CharacterCore) → x.present ≡ true → to_net (from_net (readable n)) ≡ Ok n → put (seat_numbers x) 1 (core_numbers n) ≡ seat_numbers (with_character x (from_net (readable n)))
unfolding seat_numbers present_numbers
with_core x n p e =
    let zeros : List ℤ = replicate seat_count (pos 0) in
    let rest : List ℤ = input_numbers x.input ++ (flag x.grounded ∷ []) in
    ap (λ (b : Bool). put (cond b (present_numbers x) zeros) 1 (core_numbers n)) p
    ∙ record_in (net_core (to_net x.character)) n rest
    ∙ sym (ap (λ (o : Result CharacterCore Refusal). record_numbers (record { present = true; core = net_core o }) ++ rest) e)
    ∙ sym (ap (λ (b : Bool). cond b (present_numbers (with_character x (from_net (readable n)))) zeros) p)

with_mark : (x : Slot) (g : Bool) → x.present ≡ true → put (seat_numbers x) mark_place (flag g ∷ []) ≡ seat_numbers (with_grounded x g)
unfolding seat_numbers present_numbers record_numbers core_numbers input_numbers put
with_mark x g p = rw p refl

module _ (n : CharacterCore) (g : Bool) (j : ℕ) (l : List ℤ) (h : j < seats) (long : length l ≡ world_count) where
  abbrev old : Slot
  old = seat_of (row_at l j)

  abbrev recorded : List ℤ
  recorded = put l (seat_place j + 1) (core_numbers n)

  core_written : Written seats j (seat_of (put (row_at l j) 1 (core_numbers n))) l recorded
  core_written = put_written seats l long j 1 (core_numbers n) h (omega (arith, core_long n))

  module _ (e : is_there l j ≡ true) where
    there : is_set (number_at (row_at l j) 0) ≡ true
    there = ap is_set (sym (first_in l j)) ∙ e

    core_is : seat_of (put (row_at l j) 1 (core_numbers n)) ≡ with_character old (from_net (readable n))
    core_is = core_put (row_at l j) (row_long seats j l long h) n there

    recorded-is : seat_of (row_at recorded j) ≡ with_character old (from_net (readable n))
    recorded-is = core_written.own ∙ core_is

    recorded-long : length recorded ≡ world_count
    recorded-long = core_written.size ∙ long

    old-there : old.present ≡ true
    old-there = present_is (row_at l j) true there

    mark-is : seat_of (put (row_at recorded j) mark_place (flag g ∷ [])) ≡ with_grounded (with_character old (from_net (readable n))) g
    mark-is = mark_put (row_at recorded j) (row_long seats j recorded recorded-long h) g (marked_there (row_at recorded j) (ap (λ (x : Slot). x.present) recorded-is ∙ old-there)) ∙ ap (λ (x : Slot). with_grounded x g) recorded-is

    marked : set recorded (seat_place j + mark_place) (flag g) ≡ put recorded (seat_place j + mark_place) (flag g ∷ [])
    marked = put_one recorded (seat_place j + mark_place) (flag g) (omega (arith, recorded-long))

    both-written : Written seats j (step_slot n g old) l (set recorded (seat_place j + mark_place) (flag g))
    both-written =
        subst (Written seats j (step_slot n g old) l) (sym marked)
        (subst (λ (x : Slot). Written seats j x l (put recorded (seat_place j + mark_place) (flag g ∷ []))) (mark-is ∙ sym (ap (λ (b : Bool). cond b (with_grounded (with_character old (from_net (readable n))) g) old) old-there)) (written_then seats j _ _ l recorded _ core_written (put_written seats recorded recorded-long j mark_place (flag g ∷ []) h (omega arith))))

    both_own : Own seats l → Representable (from_net (readable n)) → to_net (from_net (readable n)) ≡ Ok n → Own seats (set recorded (seat_place j + mark_place) (flag g))
    both_own o r q =
        let kept : Kept (with_character old (from_net (readable n))) = record { somebody = λ z. r; nobody = λ z. absurd (true≢false (sym old-there ∙ z)) } in
        let first : Own seats recorded = put_own seats l long o j 1 (core_numbers n) _ h (omega (arith, core_long n)) core_is (with_core old n old-there q) kept in
        subst (Own seats) (sym marked) (put_own seats recorded recorded-long first j mark_place (flag g ∷ []) (with_grounded (with_character old (from_net (readable n))) g) h (omega arith) mark-is (ap (λ (x : Slot). put (seat_numbers x) mark_place (flag g ∷ [])) recorded-is ∙ with_mark (with_character old (from_net (readable n))) g old-there) (record { somebody = λ z. r; nobody = λ z. absurd (true≢false (sym old-there ∙ z)) }))

  seat_turn : Written seats j (step_slot n g old) l (seat_written l j (core_numbers n) g)
  unfolding seat_written
  seat_turn = by_test (Written seats j (step_slot n g old) l) (is_there l j) both-written (λ e. record { size = refl; tunings = refl; own = sym (ap (λ (b : Bool). cond b (with_grounded (with_character old (from_net (readable n))) g) old) (present_is (row_at l j) false (ap is_set (sym (first_in l j)) ∙ e))); others = λ i q d. refl })

-- ---- who is removed
all_gone : (ids : List ℕ) (l : List ℤ) → length l ≡ world_count → ((k : ℕ) → is_in k ids ≡ true → k < seats) → (length (remove_in l ids) ≡ world_count) × (decoding seats (remove_in l ids) ≡ remove_all (decoding seats l) ids) × (Own seats l → Own seats (remove_in l ids))
all_gone [] l long h = (long, refl, λ o. o)
all_gone (k ∷ ks) l long h =
    let q = h k (first_of (eqb k k) (is_in k ks) (eq-eqb k k refl)) in
    let f = all_gone ks (vacate_in l k) (vacate-long k q l long) (λ j e. h j (either_in (eqb k j) (is_in j ks) e)) in
    (f.0, f.1 ∙ ap (λ (v : World). remove_all v ks) (vacate-decoding k q l long), λ o. f.2 (vacate-own k q l long o))

-- ---- an accepted step
module _ (l : List ℤ) (long : length l ≡ world_count) (s : Sides) (ts : List ℕ) (settled : Settled seats (decoding seats l)) (accepted : (step seats (decoding seats l) s ts).number ≡ 0) where
  abbrev w : World
  w = decoding seats l

  abbrev a : Stepped
  a = step seats w s ts

  r : Recorded seats w a
  r = step_recorded seats s ts w settled (omega arith) accepted

  -- the record and the floor mark of the seat k
  abbrev core : ℕ → CharacterCore
  core k = (record_at a.records k).core

  abbrev mark : ℕ → Bool
  mark k = (slot_at a.world.slots k).grounded

  seats-turned : Turned seats (step_seat a) (λ j x. step_slot (core j) (mark j) x) (λ j m. seat_turn (core j) (mark j) j m) 0 l (step_seats a l)
  unfolding step_seats
  seats-turned = turned seats (step_seat a) (λ j x. step_slot (core j) (mark j) x) (λ j m. seat_turn (core j) (mark j) j m) l long

  ids_are : ids_in a.removed ≡ r.ids
  ids_are = ap ids_in r.removed ∙ listed_ids seats r.ids

  seats_long : length (step_seats a l) ≡ world_count
  seats_long = seats-turned.size ∙ long

  -- a record that was taken is read as it is
  readable_is : (n : CharacterCore) (c : Character) → n ≡ core_of c → readable n ≡ n
  unfolding readable from_zero core_of
  readable_is n c e = ap readable e ∙ sym e

  -- what the moves left, but for the floor mark
  slot_is : (k : ℕ) → k < seats → gone_slot k r.ids (step_slot (core k) (mark k) (slot_at w.slots k)) ≡ gone_slot k r.ids (slot_at r.slots k)
  slot_is k h = go (slot_at w.slots k).present refl
    where
      same-slot : (x y : Slot) (c : Character) (g : Bool) → y.present ≡ x.present → y.character ≡ c → y.input ≡ x.input → with_grounded (with_character x c) g ≡ with_grounded y g
      same-slot x y c g p q i = rw (← p, ← q, ← i)

      there : (slot_at w.slots k).present ≡ true → step_slot (core k) (mark k) (slot_at w.slots k) ≡ with_grounded (slot_at r.slots k) (mark k)
      there e =
          let p = r.same.present k in
          let t = r.taken k h (p ∙ e) in
          ap (λ (b : Bool). cond b (with_grounded (with_character (slot_at w.slots k) (from_net (readable (core k)))) (mark k)) (slot_at w.slots k)) e
          ∙ same-slot (slot_at w.slots k) (slot_at r.slots k) (from_net (readable (core k))) (mark k) p (t.read ∙ ap from_net (sym (readable_is (core k) t.made t.is))) (r.input k)

      left : slot_at a.world.slots k ≡ gone_slot k r.ids (slot_at r.slots k)
      left = ap (λ (v : World). slot_at v.slots k) r.world ∙ gone_at k r.ids (record { slots = r.slots; tunings = w.tunings }) (omega (arith, r.same.size, settled.seats))

      go : (b : Bool) → (slot_at w.slots k).present ≡ b → gone_slot k r.ids (step_slot (core k) (mark k) (slot_at w.slots k)) ≡ gone_slot k r.ids (slot_at r.slots k)
      go true e = ap (gone_slot k r.ids) (there e ∙ ap (λ (x : Slot). with_grounded (slot_at r.slots k) x.grounded) left) ∙ gone_marked k r.ids (slot_at r.slots k)
      go false e = ap (gone_slot k r.ids) (ap (λ (b : Bool). cond b (with_grounded (with_character (slot_at w.slots k) (from_net (readable (core k)))) (mark k)) (slot_at w.slots k)) e ∙ sym (r.same.absent k e))

  pub step_long : length (remove_in (step_seats a l) (ids_in a.removed)) ≡ world_count
  step_long = ap (λ (ids : List ℕ). length (remove_in (step_seats a l) ids)) ids_are ∙ (all_gone r.ids (step_seats a l) seats_long r.within).0

  pub step-decoding : decoding seats (remove_in (step_seats a l) (ids_in a.removed)) ≡ a.world
  unfolding decoding
  step-decoding =
      let m = step_seats a l in
      let v = decoding seats m in
      let u : World = record { slots = r.slots; tunings = w.tunings } in
      let f : length v.slots ≡ seats = rows_long seat_of seat_count seats (drop tuning_count m) in
      let g : length r.slots ≡ seats = r.same.size ∙ settled.seats in
      ap (λ (ids : List ℕ). decoding seats (remove_in m ids)) ids_are
      ∙ (all_gone r.ids m seats_long r.within).1
      ∙ ap₂ (λ (xs : List Slot) (ts : List ℤ). record { slots = xs; tunings = ts })
      (ext_get_or nowhere (remove_all v r.ids).slots (remove_all u r.ids).slots (gone_length r.ids v ∙ f ∙ sym (gone_length r.ids u ∙ g)) (λ k q. let h : k < seats = (let z = gone_length r.ids v in omega arith) in gone_at k r.ids v (omega arith) ∙ ap (gone_slot k r.ids) (seat_is seats k m h ∙ seats-turned.after k (omega arith) h ∙ ap (step_slot (core k) (mark k)) (sym (seat_is seats k l h))) ∙ slot_is k h ∙ sym (gone_at k r.ids u (omega arith))))
      (gone_tunings r.ids v ∙ seats-turned.tunings ∙ sym (gone_tunings r.ids u))
      ∙ sym r.world

  pub step_own : Own seats l → Own seats (remove_in (step_seats a l) (ids_in a.removed))
  unfolding step_seats seat_written quantize
  step_own o = subst (λ (ids : List ℕ). Own seats (remove_in (step_seats a l) ids)) (sym ids_are) ((all_gone r.ids (step_seats a l) seats_long r.within).2 (turned-own seats (step_seat a) (λ j x. step_slot (core j) (mark j) x) (λ j m. seat_turn (core j) (mark j) j m) l turn_own long o))
    where
      good : (j : ℕ) → j < seats → (slot_at w.slots j).present ≡ true → (to_net (from_net (readable (core j))) ≡ Ok (core j)) × Representable (from_net (readable (core j)))
      good j h p =
          let t = r.taken j h (r.same.present j ∙ p) in
          let e : readable (core j) ≡ core j = readable_is (core j) t.made t.is in
          (ap (λ (n : CharacterCore). to_net (from_net n)) e ∙ t.again, subst (λ (n : CharacterCore). Representable (from_net n)) (sym e) (back_representable (from_net (core j)) (ap back t.again)))

      turn_own : (j : ℕ) (m : List ℤ) → j < seats → length m ≡ world_count → seat_of (row_at m j) ≡ seat_of (row_at l j) → Own seats m → Own seats (step_seat a j m)
      turn_own j m h q e k = by_test (Own seats) (is_there m j) (λ p. let d = good j h (ap (λ (x : Slot). x.present) (seat_is seats j l h ∙ sym e) ∙ present_is (row_at m j) true (ap is_set (sym (first_in m j)) ∙ p)) in both_own (core j) (mark j) j m h q p k d.1 d.0) (λ p. k)
