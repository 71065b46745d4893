-- What a query is told, and when it is refused, is what specs/Readings.antt says. Assumes nothing.
use Prim.Native.Nat.{ℕ, ◌≤◌, ◌<◌}
use native.Mathlib.Omega.{arith}
use mathlib.Core.Bool.{Bool, true, false, cond}
use mathlib.Core.Path.{◌≡◌, refl, sym, ap, ◌∙◌, subst}
use lib.Dec.{ltb, leb}
use lib.IntN.{ℤ, pos, nat_abs}
use lib.ListN.{get_or}
use borrow.Author.Tests.{ltb-true, ltb-false, leb-true, leb-false, lt-ltb, ne_eqb}
use Rattle.game_records.specs.declared.CharacterCore.{CharacterCore}
use Rattle.game_refusals.specs.Refusals.{bad_id, bad_tuning, not_present}
use Rattle.game_tuning.specs.Tuning.{tuning_count, hook_hold, told_tuning}
use Rattle.character_hook.specs.Hook.{tick_of}
use Rattle.character_hook.specs.declared.hook.CharacterId.{CharacterId}
use Rattle.character_hook.specs.declared.hook.Hook.{Hook}
use Rattle.character_hook.specs.declared.hook.Hook.TheVariants.{Retracted, Idle, Flying, Grabbed, Attached, Retracting0, Retracting1, Retracting2}
use Rattle.character.specs.Records.{most_tick, core_of, to_net, from_net, back, quantize}
use Rattle.character.specs.Tick.{slot_at}
use Rattle.character.specs.declared.Slot.{Slot}
use Rattle.character_laws.specs.Representable.{RepresentableHook}
use Rattle.character_laws.proofs.Back.{representable_back}
use Rattle.world.specs.Answers.{LowestFirst, Outside, SeatFits}
use Rattle.world.specs.Answers as fits
use Rattle.world.specs.Calls.{place_of}
use Rattle.world.specs.Readers.{seated, of_seated, of_record, record_now, mark_now, input_now, tuning_now, read_of}
use Rattle.world.specs.Readings.{read_number, HeldTooLong, RecordFits, no_one, too_long, TuningFits, no_tuning, TellsRecord, Readings}
use Rattle.world.specs.Run.{after}
use Rattle.world.specs.Settled.{Settled}
use Rattle.world.specs.World.{fresh}
use Rattle.world.specs.declared.World.{World}
use Rattle.world.specs.declared.reading.Query.TheVariants as query
use Rattle.world.specs.ReadAnswer.{ReadAnswer}
use Rattle.world.specs.ReadAnswer as reading
use Rattle.world.proofs.Answers.{none_fits, lowest_fits, place_is, place_outside, seat_present, seat_absent, seat_inside, seat_none, seat_lowest}
use Rattle.world.proofs.Seats.{present_within}
use Rattle.world.proofs.Settled.{after_settled}
use Rattle.std.specs.Prelude.{Result, Ok, Err}
use Rattle.game_refusals.specs.declared.Refusal.{Refusal}
use Rattle.game_refusals.specs.declared.Refusal.TheVariants.{BadId, TickTooLarge, Absent}

-- ---- a hook that has held for long
long_grabs : (h : Hook) → most_tick < tick_of h → {P : Type 0} → ((c : CharacterId) (t : ℕ) → h ≡ Grabbed c t → most_tick < t → P) → P
unfolding tick_of
long_grabs (Grabbed c t) l f = f c t refl l
long_grabs Retracted l f = absurd (omega arith)
long_grabs Idle l f = absurd (omega arith)
long_grabs (Flying p d) l f = absurd (omega arith)
long_grabs (Attached p) l f = absurd (omega arith)
long_grabs (Retracting0 p) l f = absurd (omega arith)
long_grabs (Retracting1 p) l f = absurd (omega arith)
long_grabs (Retracting2 p) l f = absurd (omega arith)

grabbed_tick : (h : Hook) (c : CharacterId) (t : ℕ) → h ≡ Grabbed c t → tick_of h ≡ t
unfolding tick_of
grabbed_tick h c t e = ap tick_of e

-- ---- of an id
module _ (n : ℕ) (w : World) (id : ℤ) where
  abbrev at : ℕ
  at = place_of n id

  abbrev me : Slot
  me = slot_at w.slots at

  seat_number : (f : Slot → ReadAnswer) → read_number (f me) ≡ 0 → read_number (of_seated f (seated n w id)) ≡ cond (ltb at n) (cond me.present 0 8) 2
  unfolding seated
  seat_number f z = go (ltb at n) me.present
    where
      go : (b c : Bool) → read_number (of_seated f (cond b (cond c (Ok me) (Err Absent)) (Err BadId))) ≡ cond b (cond c 0 8) 2
      go false c = refl
      go true false = refl
      go true true = z

  record_none : (Before : ℕ → Type 0) → ((k : ℕ) → Before k → SeatFits n w id k → ⊥) → (Before 10 → HeldTooLong w id → ⊥) → (k : ℕ) → Before k → RecordFits n w id k → ⊥
  record_none B s h k b (no_one f) = s k b f
  record_none B s h k b (too_long e f) = h (subst B e b) f

  not_long : at < n → tick_of me.character.hook ≤ most_tick → HeldTooLong w id → ⊥
  not_long l m h =
      let e : h.seat ≡ at = ap nat_abs (sym h.is ∙ place_is n id l) in
      let q : tick_of me.character.hook ≡ h.ticks = ap (λ (k : ℕ). tick_of (slot_at w.slots k).character.hook) (sym e) ∙ grabbed_tick _ h.who h.ticks h.holds in
      let b = h.long in
      omega (arith, m, q, b)

  -- somebody is there
  there_number : at < n → me.present ≡ true → LowestFirst (RecordFits n w id) (read_number (record_now me))
  unfolding to_net
  there_number l p = go (leb (tick_of me.character.hook) most_tick) refl
    where
      others : (Before : ℕ → Type 0) → (k : ℕ) → Before k → SeatFits n w id k → ⊥
      others B = seat_none n w id B (λ b. seat_inside w n id l) (λ b. seat_present w n id l p)

      go : (d : Bool) → leb (tick_of me.character.hook) most_tick ≡ d → LowestFirst (RecordFits n w id) (read_number (of_record (cond d (Ok (core_of me.character)) (Err TickTooLarge))))
      go true m = none_fits _ (λ k. record_none (λ j. Unit {0}) (others (λ j. Unit {0})) (λ b. not_long l (leb-true _ most_tick m)) k tt)
      go false m = long_grabs me.character.hook (leb-false _ most_tick m) (λ c t e b. lowest_fits _ 10 (omega arith) (too_long refl (record { seat = at; is = place_is n id l; there = p; who = c; ticks = t; holds = e; long = b })) (record_none (λ k. k < 10) (others (λ k. k < 10)) (λ b. absurd (omega arith))))

  record_number : LowestFirst (RecordFits n w id) (read_number (read_of n w (query.Record id)))
  unfolding seated
  record_number = go (ltb at n) me.present refl refl
    where
      go : (b c : Bool) → ltb at n ≡ b → me.present ≡ c → LowestFirst (RecordFits n w id) (read_number (of_seated record_now (cond b (cond c (Ok me) (Err Absent)) (Err BadId))))
      go false c l p = lowest_fits _ 2 (omega arith) (no_one (fits.SeatFits.no_seat refl (place_outside n id (ltb-false at n l)))) (record_none (λ k. k < 2) (seat_none n w id (λ k. k < 2) (λ b. absurd (omega arith)) (λ b. absurd (omega arith))) (λ b. absurd (omega arith)))
      go true false l p = let h = ltb-true at n l in lowest_fits _ 8 (omega arith) (no_one (fits.SeatFits.absent refl (seat_absent w n id h p))) (record_none (λ k. k < 8) (seat_none n w id (λ k. k < 8) (λ b. seat_inside w n id h) (λ b. absurd (omega arith))) (λ b. absurd (omega arith)))
      go true true l p = there_number (ltb-true at n l) p

  -- ---- what a record that is told says
  pub record Read (c : CharacterCore) : Type 0 where
    pub inside : at < n
    pub there : me.present ≡ true
    pub net : to_net me.character ≡ Ok c

  named : (o : Result CharacterCore Refusal) (c : CharacterCore) → of_record o ≡ reading.Record c → o ≡ Ok c
  named (Err why) c e = let z : ◌≡◌ {A = ℕ} 0 1 = cc in absurd (omega arith)
  named (Ok d) c e = cc

  pub record_read : (c : CharacterCore) → read_of n w (query.Record id) ≡ reading.Record c → Read c
  unfolding seated
  record_read c = go (ltb at n) me.present refl refl
    where
      none : {r : ℕ} → reading.Refused r ≡ reading.Record c → Read c
      none e = let z : ◌≡◌ {A = ℕ} 0 1 = cc in absurd (omega arith)

      go : (b d : Bool) → ltb at n ≡ b → me.present ≡ d → of_seated record_now (cond b (cond d (Ok me) (Err Absent)) (Err BadId)) ≡ reading.Record c → Read c
      go false d l p e = none e
      go true false l p e = none e
      go true true l p e = record { inside = ltb-true at n l; there = p; net = named (to_net me.character) c e }

  -- where it isn't refused, it is a record
  tells : read_number (read_of n w (query.Record id)) ≡ 0 → TellsRecord n w id
  unfolding seated quantize
  tells = go (ltb at n) me.present (to_net me.character) refl refl refl
    where
      go : (b d : Bool) (o : Result CharacterCore Refusal) → ltb at n ≡ b → me.present ≡ d → to_net me.character ≡ o → read_number (of_seated record_now (cond b (cond d (Ok me) (Err Absent)) (Err BadId))) ≡ 0 → TellsRecord n w id
      go false d o l p q e = absurd (omega (arith, e))
      go true false o l p q e = absurd (omega (arith, e))
      go true true (Err why) l p q e = let z : ◌≡◌ {A = ℕ} 10 0 = sym (ap (λ (o : Result CharacterCore Refusal). read_number (of_record o)) q) ∙ e in absurd (omega (arith, z))
      go true true (Ok c) l p q e = record { seat = at; is = place_is n id (ltb-true at n l); core = c; told = rw (l, p, q); back = ap back q }

-- ---- worlds that calls can reach
module _ (n : ℕ) (w : World) (h : Settled n w) where
  reads_back : (k : ℕ) (c : CharacterCore) → read_of n w (query.Record (pos k)) ≡ reading.Record c → from_net c ≡ (slot_at w.slots k).character
  unfolding quantize
  reads_back k c e =
      let r = record_read n w (pos k) c e in
      let q : place_of n (pos k) ≡ k = ap nat_abs (sym (place_is n (pos k) r.inside)) in
      let x = (slot_at w.slots (place_of n (pos k))).character in
      let b : Ok (from_net c) ≡ Ok x = sym (ap back r.net) ∙ representable_back x (h.representable (place_of n (pos k)) r.inside r.there) in
      let z : from_net c ≡ x = cc in
      z ∙ ap (λ (j : ℕ). (slot_at w.slots j).character) q

  held-short : (id : ℤ) → HeldTooLong w id → ⊥
  held-short id o =
      let l = present_within w.slots o.seat o.there in
      let r = (h.representable o.seat (omega (arith, l, h.seats)) o.there).hook in
      let m = (subst RepresentableHook o.holds r).1 in
      let b = o.long in
      omega (arith, m, b)

  none_ten : (id : ℤ) → RecordFits n w id 10 → ⊥
  none_ten id (no_one (fits.SeatFits.no_seat e f)) = omega (arith, e)
  none_ten id (no_one (fits.SeatFits.absent e f)) = omega (arith, e)
  none_ten id (too_long e f) = held-short id f

-- ---- tunings
module _ (w : World) (index : ℤ) where
  abbrev place : ℕ
  place = place_of tuning_count index

  tuning_none : (Before : ℕ → Type 0) → (Before 3 → Outside tuning_count index → ⊥) → (k : ℕ) → Before k → TuningFits index k → ⊥
  tuning_none B o k b (no_tuning e f) = o (subst B e b) f

  tuning_number : LowestFirst (TuningFits index) (read_number (tuning_now w index))
  unfolding tuning_now
  tuning_number = go (ltb place tuning_count) refl
    where
      go : (b : Bool) → ltb place tuning_count ≡ b → LowestFirst (TuningFits index) (read_number (cond b (reading.Tuning (told_tuning place (get_or w.tunings place (pos 0)))) (reading.Refused bad_tuning)))
      go false l = lowest_fits _ 3 (omega arith) (no_tuning refl (place_outside tuning_count index (ltb-false place tuning_count l))) (tuning_none (λ k. k < 3) (λ b. absurd (omega arith)))
      go true l = none_fits _ (λ k. tuning_none (λ j. Unit {0}) (λ b o. o place (ltb-true place tuning_count l) (place_is tuning_count index (ltb-true place tuning_count l))) k tt)

-- ---- the theorem
pub readings : (n : ℕ) → Readings n
unfolding seated tuning_now told_tuning place_of
readings n = record {
  record_number = record_number n;
  mark_number = λ w id. seat_lowest n w id _ (seat_number n w id mark_now refl);
  input_number = λ w id. seat_lowest n w id _ (seat_number n w id input_now refl);
  tuning_number = tuning_number;
  told = tells n;
  input = λ w k l p. rw (lt-ltb k n l, lt-ltb k n l, p);
  tuning = λ w k l. rw (lt-ltb k tuning_count (omega (arith, l)), lt-ltb k tuning_count (omega (arith, l)), ne_eqb k hook_hold (λ e. omega (arith, l, e)));
  hold = λ w. refl;
  back = λ s ts cs k c. reads_back n (after n s ts (fresh n) cs) (after_settled n s ts cs) k c;
  never_ten = λ s ts cs id e. let w = after n s ts (fresh n) cs in none_ten n w (after_settled n s ts cs) id (((record_number n w id).refused 10 (omega arith)).0 e).0;
}
