-- The records of a step come back from their numbers, and so does what an accepted step tells. Assumes nothing.
use Prim.Native.Nat.{ℕ, ◌+◌, ◌*◌, ◌-◌, ◌≤◌, ◌<◌}
use mathlib.Core.Bool.{Bool, true, false, cond, not, ◌&&◌, true≢false}
use mathlib.Core.List.{List, [], ◌++◌, map, append-nil}
use mathlib.Core.Path.{◌≡◌, refl, sym, ap, ◌∙◌, subst}
use native.Mathlib.Omega.{arith}
use lib.Dec.{eqb, ltb}
use lib.IntN.{ℤ, pos}
use lib.ListN.{length, drop, get_or, replicate, drop_of_length-le, get_or-eq_default}
use borrow.Author.Tests.{eqb-true, eqb-false, ltb-true, ltb-false}
use Rattle.base_turns.specs.Turns.{Turn, more, stop, next}
use Rattle.base_turns.proofs.Kept.{Ends}
use Rattle.base_turns.proofs.Tests.{either_way, both}
use Rattle.game_refusals.specs.Refusals.{bad_map}
use Rattle.game_tuning.specs.Tuning.{tuning_count, tuning_of}
use Rattle.game_tuning.specs.declared.Tuning.{Tuning}
use Rattle.game_records.specs.Numbers.{core_numbers, core_in}
use Rattle.game_records.specs.declared.CharacterCore.{CharacterCore}
use Rattle.game_records.proofs.Back.{core_back}
use Rattle.map_tiles.specs.Box.{on_deadly}
use Rattle.map_tiles.specs.Map.{is_map}
use Rattle.map_tiles.specs.declared.tiles.Sides.{Sides}
use Rattle.character.specs.Tick.{seats, slot_at}
use Rattle.character.specs.declared.Slot.{Slot}
use Rattle.world.specs.Demand3.{record_at}
use Rattle.world.specs.Removal.{dying, listed, ids_in, is_in}
use Rattle.world.specs.Step.{Moving, unpublished, tick_all, move_all, step_refused, step_answer, step_on, step}
use Rattle.world.specs.declared.Published.{Published}
use Rattle.world.specs.declared.Removed.{Removed}
use Rattle.world.specs.Answered.{Stepped}
use Rattle.world.specs.declared.World.{World}
use Rattle.world.proofs.Deadly.{step_spikes}
use Rattle.world.proofs.Present.{step-present}
use Rattle.world.proofs.Removal.{dying_are, dying_within, listed_ids}
use Rattle.world.proofs.Seats.{by_test, Same, Settling, ticks_same, moves-settle}
use Rattle.world_numbers.specs.Encoding.{record_count, seat_count, world_count, records_count, each, record_numbers, records_encoding}
use Rattle.world_numbers.specs.Decoding.{is_set, seat_of, decoding}
use Rattle.world_numbers.proofs.Encoded.{flag-back}
use Rattle.world_numbers.proofs.Rows.{record_long, each_long}
use Rattle.world_numbers.proofs.RowsIn.{row_in, rows_long, rows_back}
use Rattle.world_buffers.specs.Buffers.{has}
use Rattle.world_buffers.specs.Stepping.{StepBuffers, LeftByStep, told_in, left_by_step, step_in}
use Rattle.told_numbers.specs.Records.{published_in, published_at, RecordsComeBack, TellsStep, StepTold}

-- ---- records
-- with nothing behind it
pub core_alone : (n : CharacterCore) → core_in (core_numbers n) ≡ n
core_alone n = ap core_in (sym (append-nil (core_numbers n))) ∙ core_back n []

published_back : (p : Published) (l : List ℤ) → Unit {0} → published_in (record_numbers p ++ l) ≡ p
unfolding published_in record_numbers
published_back p l u = rw (flag-back p.present, core_back p.core l)

-- none
published_none : published_in [] ≡ unpublished
unfolding published_in is_set core_in
published_none = refl

pub records_come_back : RecordsComeBack
unfolding records_encoding
records_come_back rs j = either_way (ltb j (length rs)) (λ e. here (ltb-true j (length rs) e)) (λ e. past (ltb-false j (length rs) e))
  where
    here : j < length rs → published_at (each record_numbers rs) j ≡ record_at rs j
    here h = sym (row_in published_in record_count (length rs) j (each record_numbers rs) unpublished h) ∙ ap (λ (ps : List Published). get_or ps j unpublished) (rows_back record_numbers published_in record_count record_long (λ p. Unit {0}) published_back unpublished rs (λ k q. tt))

    past : length rs ≤ j → published_at (each record_numbers rs) j ≡ record_at rs j
    past h =
        let long = each_long record_numbers record_count record_long rs in
        ap published_in (drop_of_length-le (each record_numbers rs) {i = record_count * j} (omega arith)) ∙ published_none ∙ sym (get_or-eq_default rs unpublished h)

-- ---- who is removed was there
module _ (n : ℕ) (s : Sides) (ts : List ℕ) (w : World) where
  abbrev t : Tuning
  t = tuning_of w.tunings

  abbrev Was : Stepped → Type 0
  Was a = (k : ℕ) → is_in k (ids_in a.removed) ≡ true → (slot_at w.slots k).present ≡ true

  nobody : (r : ℕ) → Was (step_refused n w r)
  nobody r k e = absurd (true≢false (sym e ∙ ap (is_in k) (listed_ids n [])))

  moved : (us : List Slot) → Same w.slots us → (a : Turn Moving ℕ) → Ends (Settling n s ts t us n) (λ r. 0 < r) a → Was (step_answer n w s ts a)
  moved us d (stop r) l k e = nobody r k e
  moved us d (more m) f k e =
      let q = sym (ap (is_in k) (listed_ids n (dying n s ts m.slots))) ∙ e in
      let x = slot_at m.slots k in
      sym (d.present k) ∙ sym (f.same.present k) ∙ (both x.present (on_deadly s ts x.character.pos) (sym (dying_are n s ts m.slots k (dying_within n s ts m.slots k q)) ∙ q)).0

  ticked : (a : Turn (List Slot) ℕ) → Ends (Same w.slots) (λ r. 0 < r) a → Was (step_answer n w s ts (next (λ us. move_all n us s ts t) a))
  ticked (stop r) l = nobody r
  ticked (more us) d = moved us d (move_all n us s ts t) (moves-settle n s ts t us)

  was_there : Was (step n w s ts)
  unfolding step step_on
  was_there = by_test Was (is_map s ts) (λ e. ticked (tick_all n w.slots s ts t) (ticks_same n s ts t w.slots)) (λ e. nobody bad_map)

-- by what each says of k: among the removed, there before, there after
gone_is : (r b a : Bool) → a ≡ cond r false b → (r ≡ true → b ≡ true) → r ≡ b && not a
gone_is true b a e f = sym (rw (f refl, e))
gone_is false true a e f = sym (rw e)
gone_is false false a e f = refl

-- ---- how the ids are listed
module _ (n : ℕ) (s : Sides) (ts : List ℕ) (w : World) where
  abbrev Listed : Stepped → Type 0
  Listed a = a.removed ≡ listed n (ids_in a.removed)

  as_listed : (ids : List ℕ) → listed n ids ≡ listed n (ids_in (listed n ids))
  as_listed ids = ap (listed n) (sym (listed_ids n ids))

  answer_listed : (a : Turn Moving ℕ) → Listed (step_answer n w s ts a)
  answer_listed (stop r) = as_listed []
  answer_listed (more m) = as_listed (dying n s ts m.slots)

  step-listed : Listed (step n w s ts)
  unfolding step step_on
  step-listed = by_test Listed (is_map s ts) (λ e. answer_listed (next (λ ss. move_all n ss s ts (tuning_of w.tunings)) (tick_all n w.slots s ts (tuning_of w.tunings)))) (λ e. as_listed [])

-- ---- an accepted step on buffers
module _ (s : Sides) (ts : List ℕ) (l : List ℤ) (b : StepBuffers) where
  abbrev w : World
  w = decoding seats l

  abbrev a : Stepped
  a = step seats w s ts

  pub record Accepted (d : StepBuffers) : Type 0 where
    pub number : a.number ≡ 0
    pub told : d ≡ told_in a

  pub accepted : (step_in s ts l b).number ≡ 0 → Accepted (step_in s ts l b).told
  unfolding step_in left_by_step
  accepted = by_test (λ (r : LeftByStep). r.number ≡ 0 → Accepted r.told) (has world_count l && has records_count b.records && has seats b.removed)
      (λ e. by_test (λ (r : LeftByStep). r.number ≡ 0 → Accepted r.told) (eqb a.number 0) (λ f z. record { number = eqb-true a.number 0 f; told = refl }) (λ f z. absurd (eqb-false a.number 0 f z)))
      (λ e z. absurd (omega arith))

  full : length w.slots ≡ seats
  unfolding decoding
  full = rows_long seat_of seat_count seats (drop tuning_count l)

  tells_step : Accepted (step_in s ts l b).told → TellsStep w a (step_in s ts l b).told
  tells_step h = subst (TellsStep w a) (sym h.told) (record {
    records = records_come_back a.records;
    removed = ap (λ (r : Removed). r.ids) q ∙ ap (λ (n : ℕ). map pos (ids_in a.removed) ++ replicate (seats - n) (pos 0)) (sym (ap (λ (r : Removed). r.count) q));
    count = ap (λ (r : Removed). r.count) q;
    rising = (step_spikes seats w s ts full h.number).rising;
    gone = λ k. gone_is (is_in k (ids_in a.removed)) (slot_at w.slots k).present (slot_at a.world.slots k).present (step-present seats s ts w full k) (was_there seats s ts w k);
  })
    where
      q : a.removed ≡ listed seats (ids_in a.removed)
      q = step-listed seats s ts w

pub step-told : StepTold
step-told s ts l b e = tells_step s ts l b (accepted s ts l b e)
