-- After an accepted step nobody present has a corner on a deadly tile, and who is removed, just who had one, is told by rising id and goes as by a leave: in every world, whatever player collision is. Assumes nothing.
use Prim.Native.Nat.{ℕ, zero, suc, ◌<◌}
use native.Mathlib.Omega.{arith}
use mathlib.Core.Bool.{Bool, true, false, cond, ◌&&◌, ◌||◌, true≢false}
use mathlib.Core.List.{List, [], ◌∷◌}
use mathlib.Core.Path.{◌≡◌, refl, sym, ap, ◌∙◌, subst}
use lib.Dec.{eqb, ltb}
use lib.IntN.{pos}
use lib.ListN.{length}
use borrow.Author.Tests.{ltb-true, ltb-false, eqb-true, lt-ltb, eq-eqb}
use Rattle.base_turns.specs.Turns.{Turn, more, stop, next}
use Rattle.base_turns.proofs.Kept.{Ends}
use Rattle.map_tiles.specs.Box.{on_deadly}
use Rattle.map_tiles.specs.Map.{is_map, deadly}
use Rattle.map_tiles.specs.declared.tiles.Sides.{Sides}
use Rattle.map_tiles.proofs.Corners.{character_corners}
use Rattle.num_vec2.specs.declared.vec2.{vec2}
use Rattle.game_tuning.specs.Tuning.{tuning_of}
use Rattle.game_tuning.specs.declared.Tuning.{Tuning}
use Rattle.character.specs.Records.{from_net}
use Rattle.character.specs.Tick.{slot_at}
use Rattle.character.specs.declared.Character.{Character}
use Rattle.character.specs.declared.Slot.{Slot}
use Rattle.world.specs.Calls.{place_of, vacate, leave}
use Rattle.world.specs.Removal.{ids_of, dies, dying, remove_all, is_in}
use Rattle.world.specs.Run.{after}
use Rattle.world.specs.Demand3.{record_at}
use Rattle.world.specs.Deadly.{Rising, corner_deadly, leaves_of, Spiked, StepSpikes}
use Rattle.world.specs.Step.{Moving, tick_all, move_all, step_answer, step_on, step}
use Rattle.world.specs.Answered.{Stepped}
use Rattle.world.specs.declared.World.{World}
use Rattle.world.proofs.Removal.{dying_are, dying_within, listed_ids, removed_every, removed_present}
use Rattle.world.proofs.Seats.{by_test, present_within, Same, Settling, ticks_same, moves-settle}
use Rattle.world.proofs.Vacated.{vacated_others, vacated_length}
use Rattle.world.proofs.Marks.{Ticking, ticks-mark, Marked, moves-keep}
use Rattle.world.proofs.RecordsTaken.{SameInput, ticks_input, Reads, moves_read}

-- ---- the order
module _ (f : ℕ → Bool) where
  abbrev Above : ℕ → List ℕ → Type 0
  Above i [] = Unit {0}
  Above i (j ∷ js) = i < j

  ids_above : (n i j : ℕ) → j < i → Above j (ids_of f n i)
  ids_above zero i j l = tt
  ids_above (suc n) i j l = by_test (Above j) (f i) (λ e. l) (λ e. ids_above n (suc i) j (omega arith))

  rising_on : (i : ℕ) (js : List ℕ) → Above i js → Rising js → Rising (i ∷ js)
  rising_on i [] a r = tt
  rising_on i (j ∷ js) a r = (a, r)

  ids_rise : (n i : ℕ) → Rising (ids_of f n i)
  ids_rise zero i = tt
  ids_rise (suc n) i = let r = ids_rise n (suc i) in by_test Rising (f i) (λ e. rising_on i (ids_of f n (suc i)) (ids_above n (suc i) i (omega arith)) r) (λ e. r)

-- ---- who is still there
not_in : (b c : Bool) → cond b false c ≡ true → b ≡ false
not_in true c e = absurd (true≢false (sym e))
not_in false c e = refl

-- ---- as by a leave
module _ (n : ℕ) (s : Sides) (ts : List ℕ) where
  rising_rest : (j : ℕ) (js : List ℕ) → Rising (j ∷ js) → Rising js
  rising_rest j [] r = tt
  rising_rest j (k ∷ js) r = r.1

  rising_least : (j : ℕ) (js : List ℕ) → Rising (j ∷ js) → (k : ℕ) → is_in k js ≡ true → j < k
  rising_least j [] r k e = absurd (true≢false (sym e))
  rising_least j (i ∷ js) r k e = go (eqb i k) refl e (rising_least i js r.1 k)
    where
      go : (b : Bool) → eqb i k ≡ b → (b || is_in k js) ≡ true → (is_in k js ≡ true → i < k) → j < k
      go true q z l = subst (λ (m : ℕ). j < m) (eqb-true i k q) r.0
      go false q z l = let a = r.0 in let b = l z in omega (arith, a, b)

  -- a leave of who is there
  leave_vacates : (w : World) (k : ℕ) → k < n → (slot_at w.slots k).present ≡ true → (leave n w (pos k)).world ≡ vacate w k
  unfolding leave place_of
  leave_vacates w k l p = rw (lt-ltb k n l, lt-ltb k n l, p)

  leaves_remove : (ids : List ℕ) (w : World) → length w.slots ≡ n → Rising ids → ((k : ℕ) → is_in k ids ≡ true → (slot_at w.slots k).present ≡ true) → remove_all w ids ≡ after n s ts w (leaves_of ids)
  leaves_remove [] w full r h = refl
  leaves_remove (j ∷ ids) w full r h =
      let p = h j (rw (eq-eqb j j refl)) in
      let l = present_within w.slots j p in
      let e = leave_vacates w j (omega (arith, full, l)) p in
      let rest = leaves_remove ids (vacate w j) (vacated_length w j ∙ full) (rising_rest j ids r) (λ k q. let a = rising_least j ids r k q in ap (λ (x : Slot). x.present) (vacated_others w j k (λ z. omega (arith, a, z))) ∙ h k (either (eqb j k) (is_in k ids) q)) in
      rest ∙ ap (λ (v : World). after n s ts v (leaves_of ids)) (sym e)
    where
      either : (b c : Bool) → c ≡ true → (b || c) ≡ true
      either true c q = refl
      either false c q = q

and_left : (b c : Bool) → (b && c) ≡ true → b ≡ true
and_left true c e = refl
and_left false c e = absurd (true≢false (sym e))

never_true : (b : Bool) → (b ≡ true → ⊥) → b ≡ false
never_true true f = absurd (f refl)
never_true false f = refl

-- ---- the step
module _ (n : ℕ) (w : World) (s : Sides) (ts : List ℕ) (full : length w.slots ≡ n) where
  abbrev t : Tuning
  t = tuning_of w.tunings

  corner_is : (p : vec2) → on_deadly s ts p ≡ corner_deadly s ts p
  unfolding on_deadly
  corner_is p = character_corners deadly s ts p

  module _ (m : Moving) (size : length m.slots ≡ n) where
    abbrev ids : List ℕ
    ids = dying n s ts m.slots

    abbrev before : World
    before = record { slots = m.slots; tunings = w.tunings }

    -- where it stood when the records were taken
    stood : (k : ℕ) → (slot_at (remove_all before ids).slots k).present ≡ true → ((slot_at m.slots k).present ≡ true) × ((slot_at (remove_all before ids).slots k).character.pos ≡ (slot_at m.slots k).character.pos)
    stood k q = removed_every (λ j x. x.present ≡ true → ((slot_at m.slots j).present ≡ true) × (x.character.pos ≡ (slot_at m.slots j).character.pos)) (λ j e. absurd (true≢false (sym e))) (λ j i x g. g) ids before (λ j e. (e, refl)) k q

    alive : (k : ℕ) → (slot_at (remove_all before ids).slots k).present ≡ true → on_deadly s ts (slot_at (remove_all before ids).slots k).character.pos ≡ false
    alive k q =
        let p = stood k q in
        let l : k < n = (let h = present_within m.slots k p.0 in omega (arith, size, h)) in
        let out = not_in (is_in k ids) (slot_at m.slots k).present (sym (removed_present k ids before (λ e. let h = dying_within n s ts m.slots k e in omega (arith, size, h))) ∙ q) in
        ap (on_deadly s ts) p.1 ∙ ap (λ (b : Bool). b && on_deadly s ts (slot_at m.slots k).character.pos) (sym p.0) ∙ sym (dying_are n s ts m.slots k l) ∙ out

    -- who is in the list was there
    died : (k : ℕ) → is_in k ids ≡ true → (slot_at m.slots k).present ≡ true
    died k e = and_left (slot_at m.slots k).present _ (sym (dying_are n s ts m.slots k (dying_within n s ts m.slots k e)) ∙ e)

    -- who is in the list
    module _ (us : List Slot) (d : Same w.slots us) (f : Settling n s ts t us n m) (g : Reads n s ts t us n m) where
      there : (k : ℕ) → (slot_at m.slots k).present ≡ (slot_at w.slots k).present
      there k = f.same.present k ∙ d.present k

      as_read : (k : ℕ) → (slot_at w.slots k).present ≡ true → (slot_at m.slots k).character ≡ from_net (record_at m.records k).core
      as_read k p = let q = there k ∙ p in let l : k < n = (let h = present_within m.slots k q in omega (arith, size, h)) in g.reads k l l q

      dead : (k : ℕ) (b : Bool) → (slot_at w.slots k).present ≡ b → dies s ts (slot_at m.slots k) ≡ (b && corner_deadly s ts (from_net (record_at m.records k).core).pos)
      dead k true p = rw (there k ∙ p) (corner_is (slot_at m.slots k).character.pos ∙ ap (λ (c : Character). corner_deadly s ts c.pos) (as_read k p))
      dead k false p = rw (there k ∙ p)

      removed-are : (k : ℕ) → is_in k ids ≡ ((slot_at w.slots k).present && corner_deadly s ts (from_net (record_at m.records k).core).pos)
      removed-are k = go (ltb k n) refl
        where
          go : (b : Bool) → ltb k n ≡ b → is_in k ids ≡ ((slot_at w.slots k).present && corner_deadly s ts (from_net (record_at m.records k).core).pos)
          go true l = dying_are n s ts m.slots k (ltb-true k n l) ∙ dead k (slot_at w.slots k).present refl
          go false l =
              let h = ltb-false k n l in
              never_true (is_in k ids) (λ e. let b = dying_within n s ts m.slots k e in omega (arith, h, b)) ∙ sym (ap (λ (b : Bool). b && corner_deadly s ts (from_net (record_at m.records k).core).pos) (never_true (slot_at w.slots k).present (λ e. let b = present_within w.slots k e in omega (arith, h, b, full))))

  -- ---- the answer
  abbrev Claims : Stepped → Type 0
  Claims a = a.number ≡ 0 → Spiked n s ts w a

  refused : (r : ℕ) → 0 < r → Claims (step_answer n w s ts (stop r))
  refused r l e = absurd (omega arith)

  moved : (us : List Slot) → Same w.slots us → SameInput n s ts t w.slots us → Ticking n s ts t w.slots n us → (a : Turn Moving ℕ) → Ends (Settling n s ts t us n) (λ r. 0 < r) a → Ends (Reads n s ts t us n) (λ r. Unit {0}) a → Ends (Marked n s ts t us) (λ r. Unit {0}) a → Claims (step_answer n w s ts a)
  unfolding dying
  moved us d i c (stop r) l g k = refused r l
  moved us d i c (more m) f g k = λ e.
      let size = f.same.size ∙ d.size ∙ full in
      let ids = dying n s ts m.slots in
      let told = listed_ids n ids in
      let rise : Rising ids = ids_rise _ n 0 in
      let v : World = record { slots = m.slots; tunings = w.tunings } in
      record {
        nobody = λ j q. sym (corner_is (slot_at (remove_all v ids).slots j).character.pos) ∙ alive m size j q;
        rising = subst Rising (sym told) rise;
        removed = λ j. ap (is_in j) told ∙ removed-are m size us d f g j;
        before = v;
        taken = record {
          present = there m size us d f g;
          character = as_read m size us d f g;
          mark = λ j p. k j ∙ c.marks j (let h = present_within w.slots j p in omega (arith, full, h)) p;
          input = λ j. g.input j ∙ i j;
          absent = λ j p. f.same.absent j (d.present j ∙ p) ∙ d.absent j p;
          tunings = refl;
          size = f.same.size ∙ d.size;
        };
        leaves = leaves_remove n s ts ids v size rise (λ j q. died m size j q) ∙ ap (λ (l : List ℕ). after n s ts v (leaves_of l)) (sym told);
      }

  ticked : (a : Turn (List Slot) ℕ) → Ends (Same w.slots) (λ r. 0 < r) a → Ends (SameInput n s ts t w.slots) (λ r. Unit {0}) a → Ends (Ticking n s ts t w.slots n) (λ r. 0 < r) a → Claims (step_answer n w s ts (next (λ us. move_all n us s ts t) a))
  ticked (stop r) l i c = refused r l
  ticked (more us) d i c = moved us d i c (move_all n us s ts t) (moves-settle n s ts t us) (moves_read n s ts t us) (moves-keep n s ts t us)

  claims : Claims (step n w s ts)
  unfolding step step_on
  claims = by_test Claims (is_map s ts) (λ e. ticked (tick_all n w.slots s ts t) (ticks_same n s ts t w.slots) (ticks_input n s ts t w.slots) (ticks-mark n s ts t w.slots)) (λ e q. absurd (omega arith))

pub step_spikes : (n : ℕ) → StepSpikes n
step_spikes n w s ts full e = claims n w s ts full e
