-- The floor mark of every id after every list of calls, whatever the map and player collision. Assumes nothing.
use Prim.Native.Nat.{ℕ, suc, ◌<◌}
use native.Mathlib.Omega.{arith}
use mathlib.Core.Bool.{Bool, true, false, cond, ◌&&◌, true≢false}
use mathlib.Core.List.{List, [], ◌∷◌}
use mathlib.Core.Logic.{⊎_elim}
use mathlib.Core.Path.{◌≡◌, refl, sym, ap, ◌∙◌, subst}
use lib.Dec.{eqb, ltb}
use borrow.Author.Tests.{ne_eqb, ltb-true}
use Rattle.base_turns.specs.Turns.{Turn, more, stop, next, run}
use Rattle.base_turns.proofs.Kept.{Ends, run-kept}
use Rattle.map_tiles.specs.Map.{is_map}
use Rattle.map_tiles.specs.declared.tiles.Sides.{Sides}
use Rattle.game_tuning.specs.Tuning.{tuning_of}
use Rattle.game_tuning.specs.declared.Tuning.{Tuning}
use Rattle.game_records.specs.declared.PlayerInput.{PlayerInput}
use Rattle.game_refusals.specs.Refusals.{bad_id, not_present}
use Rattle.num_vec2.specs.declared.vec2.{vec2}
use Rattle.character_motion.specs.Controls.{grounded}
use Rattle.character.specs.Slot.{empty_slot, joined_slot, with_character, with_input}
use Rattle.character.specs.Tick.{slot_at, nowhere, after_pull, tick_at}
use Rattle.character.specs.Records.{from_net}
use Rattle.character.specs.declared.Slot.{Slot}
use Rattle.character_laws.proofs.Slots.{set_every, set_others}
use Rattle.character_laws.proofs.Others.{Then, tick_pos, tick-grounded, pulled_others}
use Rattle.world.specs.declared.call.Call.{Call}
use Rattle.world.specs.declared.call.Call.TheVariants.{Join, Leave, Input, Step, Tune}
use Rattle.world.specs.Answered.{Stepped}
use Rattle.world.specs.declared.World.{World}
use Rattle.world.specs.World.{fresh}
use Rattle.world.specs.Calls.{place_of, point_of, join, released_slot, leave, input}
use Rattle.world.specs.Readers.{seated, of_seated, mark_now}
use Rattle.world.specs.ReadAnswer as reading
use Rattle.world.specs.Removal.{dying, ids_in, is_in}
use Rattle.world.specs.Step.{Moving, after_tick, tick_turn, tick_all, record_of, publish, move_in, move_turn, moving_from, move_all, step_answer, step_on, step}
use Rattle.world.specs.Run.{input_of, ran, after}
use Rattle.world.specs.Demand3.{present}
use Rattle.world.specs.Marks.{LastStep, none, from, last_step_after, last_step, grounded_then, MarksFollow}
use Rattle.world.specs.Settled.{Settled}
use Rattle.world.proofs.Removal.{removed_every}
use Rattle.world.proofs.Seats.{last_or_below, present_within, by_test, Settling, moves-settle}
use Rattle.world.proofs.NextSlot.{join_slot, leave_slot, input_slot, tune_slot}
use Rattle.world.proofs.Present.{present-next, fresh_absent, present_follows}
use Rattle.world.proofs.Settled.{answer-settled, after_settled}
use Rattle.std.specs.Prelude.{Result, Ok, Err}
use Rattle.game_records.specs.declared.CharacterCore.{CharacterCore}
use Rattle.character.specs.declared.tick.AfterTick.{AfterTick}
use Rattle.game_refusals.specs.declared.Refusal.{Refusal}
use Rattle.game_refusals.specs.declared.Refusal.TheVariants.{BadId, Absent}

module _ (n : ℕ) (s : Sides) (ts : List ℕ) where
  -- ---- the ticks of a step that began with ss
  module _ (t : Tuning) (ss : List Slot) where
    -- after i of them: everybody stands where the step began, and who has ticked has the mark of it
    pub record Ticking (i : ℕ) (us : List Slot) : Type 0 where
      pub there : (k : ℕ) → (slot_at us k).present ≡ (slot_at ss k).present
      pub stands : (k : ℕ) → (slot_at us k).character.pos ≡ (slot_at ss k).character.pos
      pub marks : (k : ℕ) → k < i → (slot_at ss k).present ≡ true → (slot_at us k).grounded ≡ grounded s ts (slot_at ss k).character.pos

    tick_turn_lem : (i : ℕ) (us : List Slot) → Ticking i us → Ends (Ticking (suc i)) (λ r. 0 < r) (tick_turn n s ts t i us)
    tick_turn_lem i us h = let x = slot_at us i in by_test (Ends (Ticking (suc i)) (λ r. 0 < r)) x.present (λ p. ticks p (tick_at n x.character i us s ts x.input t) (tick_pos n x.character i us s ts x.input t) (tick-grounded n x.character i us s ts x.input t)) nobody
      where
        ticks : (slot_at us i).present ≡ true → (k : Result AfterTick Refusal) → Then (λ a. a.me.pos ≡ (slot_at us i).character.pos) k → Then (λ a. a.grounded ≡ grounded s ts (slot_at us i).character.pos) k → Ends (Ticking (suc i)) (λ r. 0 < r) (after_tick us i k)
        ticks p (Err e) stays mark = omega arith
        ticks p (Ok a) stays mark =
            let vs = after_pull us a.pull in
            let same = pulled_others us a.pull in
            let there : (k : ℕ) → (slot_at vs k).present ≡ (slot_at ss k).present = λ k. ap (λ (y : Slot). y.present) (same k) ∙ h.there k in
            record {
              there = set_every (λ k y. y.present ≡ (slot_at ss k).present) vs i _ nowhere there (there i);
              stands = set_every (λ k y. y.character.pos ≡ (slot_at ss k).character.pos) vs i _ nowhere (λ k. ap (λ (y : Slot). y.character.pos) (same k) ∙ h.stands k) (stays ∙ h.stands i);
              marks = set_others (λ k y. k < suc i → (slot_at ss k).present ≡ true → y.grounded ≡ grounded s ts (slot_at ss k).character.pos) vs i _ nowhere (present_within vs i (ap (λ (y : Slot). y.present) (same i) ∙ p)) (λ k d l q. ap (λ (y : Slot). y.grounded) (same k) ∙ h.marks k (omega arith) q) (λ l q. mark ∙ ap (grounded s ts) (h.stands i));
            }

        nobody : (slot_at us i).present ≡ false → Ticking (suc i) us
        nobody p = record { there = h.there; stands = h.stands; marks = λ k l. ⊎_elim (λ e. λ q. absurd (true≢false (sym q ∙ sym (h.there k) ∙ ap (λ (m : ℕ). (slot_at us m).present) e ∙ p))) (h.marks k) (last_or_below k i l) }

    pub ticks-mark : Ends (Ticking n) (λ r. 0 < r) (tick_all n ss s ts t)
    unfolding tick_all
    ticks-mark = subst (λ (j : ℕ). Ends (Ticking j) (λ r. 0 < r) (run (tick_turn n s ts t) n 0 ss)) (omega arith) (run-kept (tick_turn n s ts t) Ticking (λ r. 0 < r) tick_turn_lem n 0 ss (record { there = λ k. refl; stands = λ k. refl; marks = λ k l. absurd (omega arith) }))

  -- ---- the moves leave every mark
  module _ (t : Tuning) (us : List Slot) where
    abbrev pub Marked : Moving → Type 0
    Marked m = (k : ℕ) → (slot_at m.slots k).grounded ≡ (slot_at us k).grounded

    move_turn_lem : (i : ℕ) (m : Moving) → Marked m → Ends Marked (λ r. Unit {0}) (move_turn n s ts t i m)
    move_turn_lem i m h = by_test (Ends Marked (λ r. Unit {0})) (slot_at m.slots i).present (λ p. published (record_of (move_in n s ts t m.slots i))) (λ p. h)
      where
        published : (r : Result CharacterCore Refusal) → Ends Marked (λ r. Unit {0}) (publish m i r)
        published (Err k) = tt
        published (Ok core) = set_every (λ k y. y.grounded ≡ (slot_at us k).grounded) m.slots i (with_character (slot_at m.slots i) (from_net core)) nowhere h (h i)

    pub moves-keep : Ends Marked (λ r. Unit {0}) (move_all n us s ts t)
    unfolding move_all
    moves-keep = run-kept (move_turn n s ts t) (λ i. Marked) (λ r. Unit {0}) move_turn_lem n 0 (moving_from n us) (λ k. refl)

  -- ---- a step
  -- an accepted one marks everybody who is there and stays by where the step began, a refused one leaves everything
  module _ (w : World) (k : ℕ) (l : k < n) (p : (slot_at w.slots k).present ≡ true) where
    abbrev t : Tuning
    t = tuning_of w.tunings

    abbrev Marks : Stepped → Type 0
    Marks a = (slot_at a.world.slots k).present ≡ true → (slot_at a.world.slots k).grounded ≡ cond (eqb a.number 0) (grounded s ts (slot_at w.slots k).character.pos) (slot_at w.slots k).grounded

    refused : (r : ℕ) → 0 < r → Marks (step_answer n w s ts (stop r))
    refused r h q = rw (ne_eqb r 0 (λ e. omega arith))

    moved : (us : List Slot) → Ticking t w.slots n us → (a : Turn Moving ℕ) → Ends (Settling n s ts t us n) (λ r. 0 < r) a → Ends (Marked t us) (λ r. Unit {0}) a → Marks (step_answer n w s ts a)
    moved us h (stop r) f z = refused r f
    moved us h (more m) f z = λ q. removed_every (λ j x. x.present ≡ true → x.grounded ≡ (slot_at m.slots j).grounded) (λ j e. absurd (true≢false (sym e))) (λ j i x g. g) (dying n s ts m.slots) (record { slots = m.slots; tunings = w.tunings }) (λ j e. refl) k q ∙ z k ∙ h.marks k l p

    ticked-marks : (a : Turn (List Slot) ℕ) → Ends (Ticking t w.slots n) (λ r. 0 < r) a → Marks (step_answer n w s ts (next (λ us. move_all n us s ts t) a))
    ticked-marks (stop r) z = refused r z
    ticked-marks (more us) h = moved us h (move_all n us s ts t) (moves-settle n s ts t us) (moves-keep t us)

    step-marks : Marks (step n w s ts)
    unfolding step step_on
    step-marks = by_test Marks (is_map s ts) (λ e. ticked-marks (tick_all n w.slots s ts t) (ticks-mark t w.slots)) (λ e q. refl)

  -- ---- every call, and every list of them
  module _ (k : ℕ) (l : k < n) where
    -- the mark of a slot where somebody is
    abbrev Is : LastStep → Slot → Type 0
    Is last x = x.present ≡ true → x.grounded ≡ grounded_then s ts last

    joined : (b : Bool) (x : Slot) (last : LastStep) (z : Slot) → z.grounded ≡ false → Is last x → Is (cond b none last) (cond b z x)
    joined true x last z e h = λ q. e
    joined false x last z e h = h

    left : (b c : Bool) (x : Slot) (j : ℕ) (last : LastStep) → Is last x → Is last (cond b (cond c empty_slot (released_slot x j)) x)
    left true true x j last h = λ q. absurd (true≢false (sym q))
    left true false x j last h = h
    left false c x j last h = h

    told : (b : Bool) (x : Slot) (last : LastStep) (i : PlayerInput) → Is last x → Is last (cond b (with_input x i) x)
    told true x last i h = h
    told false x last i h = h

    stepped : (b : Bool) (last : LastStep) (p : vec2) → cond b (grounded s ts p) (grounded_then s ts last) ≡ grounded_then s ts (cond b (from p) last)
    stepped true last p = refl
    stepped false last p = refl

    still : (b c : Bool) → cond b false c ≡ true → c ≡ true
    still true c e = absurd (true≢false (sym e))
    still false c e = e

    mark-next : (w : World) (c : Call) (last : LastStep) → Settled n w → Is last (slot_at w.slots k) → Is (last_step_after n k w (ran n s ts w c) c last) (slot_at (ran n s ts w c).world.slots k)
    mark-next w (Join id x y) last g h = rw (join_slot n s ts w g.seats k id x y) (joined (eqb (place_of n id) k && eqb (join n w s ts id x y).number 0) (slot_at w.slots k) last (joined_slot (point_of x y)) refl h)
    mark-next w (Leave id) last g h = rw (leave_slot n s ts w g.seats k id) (left (eqb (leave n w id).number 0) (eqb (place_of n id) k) (slot_at w.slots k) (place_of n id) last h)
    mark-next w (Input id d x y j a) last g h = let i = input_of d x y j a in rw (input_slot n s ts w g.seats k id i) (told (eqb (place_of n id) k && eqb (input n w id i).number 0) (slot_at w.slots k) last i h)
    mark-next w (Tune index z) last g h = rw (tune_slot n s ts w g.seats k index z) h
    mark-next w Step last g h = λ q.
        let p = still (is_in k (ids_in (step n w s ts).removed)) (slot_at w.slots k).present (sym (present-next n s ts w Step g k) ∙ q) in
        let b = eqb (step n w s ts).number 0 in
        let at = (slot_at w.slots k).character.pos in
        step-marks w k l p q ∙ ap (λ (m : Bool). cond b (grounded s ts at) m) (h p) ∙ stepped b last at

    marks-after : (cs : List Call) (w : World) (last : LastStep) → Settled n w → Is last (slot_at w.slots k) → Is (last_step n s ts k last w cs) (slot_at (after n s ts w cs).slots k)
    marks-after [] w last g h = h
    marks-after (c ∷ cs) w last g h = marks-after cs (ran n s ts w c).world (last_step_after n k w (ran n s ts w c) c last) (answer-settled n s ts w c g) (mark-next w c last g h)

    marks-fresh : (cs : List Call) → Is (last_step n s ts k none (fresh n) cs) (slot_at (after n s ts (fresh n) cs).slots k)
    marks-fresh cs = marks-after cs (fresh n) none (after_settled n s ts []) (λ q. absurd (true≢false (sym q ∙ fresh_absent n k)))

pub marks_follow : (n : ℕ) → MarksFollow n
unfolding seated
marks_follow n s ts cs id = go (ltb k n) refl (present n s ts k false (fresh n) cs) (present_follows n s ts cs k)
  where
    k : ℕ
    k = place_of n id

    x : Slot
    x = slot_at (after n s ts (fresh n) cs).slots k

    last : LastStep
    last = last_step n s ts k none (fresh n) cs

    go : (b : Bool) → ltb k n ≡ b → (c : Bool) → x.present ≡ c → of_seated mark_now (cond b (cond x.present (Ok x) (Err Absent)) (Err BadId)) ≡ cond b (cond c (reading.FloorMark (grounded_then s ts last)) (reading.Refused not_present)) (reading.Refused bad_id)
    go false e c p = refl
    go true e false p = rw p refl
    go true e true p = rw p (ap reading.FloorMark (marks-fresh n s ts k (ltb-true k n e) cs p))
