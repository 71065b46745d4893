-- An accepted step has a record of whoever was there, which whoever is alone becomes, and leaves the tunings. Assumes nothing.
use Prim.Native.Nat.{ℕ, suc, ◌<◌}
use native.Mathlib.Omega.{arith}
use mathlib.Core.Logic.{⊎_elim}
use mathlib.Core.Bool.{Bool, true, false, cond, ◌&&◌, true≢false}
use mathlib.Core.List.{List, [], ◌∷◌}
use mathlib.Core.Path.{◌≡◌, refl, sym, ap, ◌∙◌, subst}
use lib.Dec.{eqb}
use lib.ListN.{length, set, length-set, length-replicate}
use lib.Seq.{get_or-set_same, get_or-set_other}
use borrow.Author.Tests.{eqb-true, eqb-false, eq-eqb}
use Rattle.base_turns.specs.Turns.{Turn, more, stop, next, run}
use Rattle.base_turns.proofs.Kept.{Ends, run-kept}
use Rattle.base_turns.proofs.Tests.{either_way, both, or_first}
use Rattle.map_tiles.specs.Box.{on_deadly}
use Rattle.map_tiles.specs.Map.{is_map}
use Rattle.map_tiles.specs.declared.tiles.Sides.{Sides}
use Rattle.game_tuning.specs.Tuning.{tuning_of}
use Rattle.game_tuning.specs.declared.Tuning.{Tuning}
use Rattle.character.specs.Slot.{with_character}
use Rattle.character.specs.Tick.{slot_at, nowhere}
use Rattle.character.specs.declared.Character.{Character}
use Rattle.character.specs.declared.Slot.{Slot}
use Rattle.character.specs.Records.{from_net}
use Rattle.character_laws.proofs.Slots.{set_every}
use Rattle.world.specs.Removal.{dying, remove_all, ids_in, is_in}
use Rattle.world.specs.Step.{Moving, unpublished, tick_all, record_of, publish, move_in, move_turn, moving_from, move_all, step_answer, step_on, step}
use Rattle.world.specs.Demand3.{record_at}
use Rattle.world.specs.declared.Published.{Published}
use Rattle.world.specs.Answered.{Stepped}
use Rattle.world.specs.declared.World.{World}
use Rattle.world.proofs.Removal.{dying_are, dying_within, listed_ids, removed_kept, removed_present}
use Rattle.world.proofs.Seats.{by_test, last_or_below, present_within, Same, Settling, ticks_same, moves-settle}
use Rattle.std.specs.Prelude.{Result, Ok, Err}
use Rattle.game_records.specs.declared.CharacterCore.{CharacterCore}
use Rattle.game_refusals.specs.declared.Refusal.{Refusal}

-- nobody is in an empty list alone
nobody_in : (ks : List ℕ) → ((j : ℕ) → is_in j ks ≡ false) → ks ≡ []
nobody_in [] f = refl
nobody_in (k ∷ ks) f = absurd (true≢false (sym (or_first (eqb k k) (is_in k ks) (eq-eqb k k refl)) ∙ f k))

-- who is not removed and was there
pub not_gone : (b c : Bool) → cond b false c ≡ true → (b ≡ false) × (c ≡ true)
not_gone true c e = absurd (true≢false (sym e))
not_gone false c e = (refl, e)

module _ (n : ℕ) (s : Sides) (ts : List ℕ) where
  -- ---- the moves
  module _ (t : Tuning) (ss : List Slot) where
    -- after i moves: a record of each that is there and has moved, and each is what it reads as
    record Publishing (i : ℕ) (m : Moving) : Type 0 where
      size : length m.records ≡ n
      same : (k : ℕ) → (slot_at m.slots k).present ≡ (slot_at ss k).present
      told : (k : ℕ) → k < i → k < n → (slot_at ss k).present ≡ true → (record_at m.records k).present ≡ true
      read : (k : ℕ) → k < i → k < n → (slot_at ss k).present ≡ true → (slot_at m.slots k).character ≡ from_net (record_at m.records k).core

    turn : (i : ℕ) (m : Moving) → Publishing i m → Ends (Publishing (suc i)) (λ r. Unit {0}) (move_turn n s ts t i m)
    turn i m h = by_test (Ends (Publishing (suc i)) (λ r. Unit {0})) (slot_at m.slots i).present (λ p. recorded p (record_of (move_in n s ts t m.slots i))) nobody
      where
        recorded : (slot_at m.slots i).present ≡ true → (o : Result CharacterCore Refusal) → Ends (Publishing (suc i)) (λ r. Unit {0}) (publish m i o)
        recorded p (Err k) = tt
        recorded here (Ok core) = record {
          size = length-set m.records i new ∙ h.size;
          same = set_every (λ k x. x.present ≡ (slot_at ss k).present) m.slots i x nowhere h.same (h.same i);
          told = λ k l d p. ⊎_elim (λ e. ap (λ (j : ℕ). (record_at (set m.records i new) j).present) e ∙ ap (λ (x : Published). x.present) (get_or-set_same m.records i new unpublished (omega (arith, h.size, e)))) (λ q. ap (λ (x : Published). x.present) (get_or-set_other m.records i k new unpublished (λ e. omega (arith, q, e))) ∙ h.told k q d p) (last_or_below k i l);
          read = λ k l d p. ⊎_elim (λ e. subst (λ (j : ℕ). (slot_at (set m.slots i x) j).character ≡ from_net (record_at (set m.records i new) j).core) (sym e) (ap (λ (y : Slot). y.character) (get_or-set_same m.slots i x nowhere (present_within m.slots i here)) ∙ sym (ap (λ (y : Published). from_net y.core) (get_or-set_same m.records i new unpublished (omega (arith, h.size, d, e)))))) (λ q. ap (λ (y : Slot). y.character) (get_or-set_other m.slots i k x nowhere (λ e. omega (arith, q, e))) ∙ h.read k q d p ∙ sym (ap (λ (y : Published). from_net y.core) (get_or-set_other m.records i k new unpublished (λ e. omega (arith, q, e))))) (last_or_below k i l);
        }
          where
            new : Published
            new = record { present = true; core = core }

            x : Slot
            x = with_character (slot_at m.slots i) (from_net core)

        nobody : (slot_at m.slots i).present ≡ false → Publishing (suc i) m
        nobody p = record {
          size = h.size;
          same = h.same;
          told = λ k l d q. ⊎_elim (λ e. absurd (true≢false (sym q ∙ sym (h.same k) ∙ ap (λ (j : ℕ). (slot_at m.slots j).present) e ∙ p))) (λ r. h.told k r d q) (last_or_below k i l);
          read = λ k l d q. ⊎_elim (λ e. absurd (true≢false (sym q ∙ sym (h.same k) ∙ ap (λ (j : ℕ). (slot_at m.slots j).present) e ∙ p))) (λ r. h.read k r d q) (last_or_below k i l);
        }

    published : Ends (Publishing n) (λ r. Unit {0}) (move_all n ss s ts t)
    unfolding move_all
    published = subst (λ (j : ℕ). Ends (Publishing j) (λ r. Unit {0}) (run (move_turn n s ts t) n 0 (moving_from n ss))) (omega arith) (run-kept (move_turn n s ts t) Publishing (λ r. Unit {0}) turn n 0 (moving_from n ss) (record { size = length-replicate n unpublished; same = λ k. refl; told = λ k l. absurd (omega arith); read = λ k l. absurd (omega arith) }))

  -- ---- a step
  module _ (w : World) where
    abbrev tuning : Tuning
    tuning = tuning_of w.tunings

    -- but k nobody is there
    abbrev Nobody : ℕ → Type 0
    Nobody k = (j : ℕ) → j < n → (j ≡ k → ⊥) → (slot_at w.slots j).present ≡ false

    pub record Leaves (a : Stepped) : Type 0 where
      pub published : a.number ≡ 0 → (k : ℕ) → k < n → (slot_at w.slots k).present ≡ true → (record_at a.records k).present ≡ true
      -- whoever was alone and still is there
      pub read : a.number ≡ 0 → (k : ℕ) → k < n → Nobody k → (slot_at a.world.slots k).present ≡ true → (slot_at a.world.slots k).character ≡ from_net (record_at a.records k).core
      -- whoever was there is removed where its record has a corner on a deadly tile
      pub removed : a.number ≡ 0 → (k : ℕ) → k < n → (slot_at w.slots k).present ≡ true → is_in k (ids_in a.removed) ≡ on_deadly s ts (from_net (record_at a.records k).core).pos
      pub tunings : a.world.tunings ≡ w.tunings

    stopped : (k : ℕ) → 0 < k → Leaves (step_answer n w s ts (stop k))
    stopped k l = record { published = λ e. absurd (omega arith); read = λ e. absurd (omega arith); removed = λ e. absurd (omega arith); tunings = refl }

    moved : (us : List Slot) → Same w.slots us → (a : Turn Moving ℕ) → Ends (Settling n s ts tuning us n) (λ r. 0 < r) a → Ends (Publishing tuning us n) (λ r. Unit {0}) a → Leaves (step_answer n w s ts a)
    moved us d (stop k) f g = stopped k f
    moved us d (more m) f g = record {
      published = λ e k l p. g.told k l l (d.present k ∙ p);
      read = λ e k l q p. alone k l q p;
      removed = λ e k l p. ap (is_in k) (listed_ids n ids) ∙ dying_are n s ts m.slots k l ∙ ap (λ (b : Bool). b && on_deadly s ts (slot_at m.slots k).character.pos) (f.same.present k ∙ d.present k ∙ p) ∙ ap (λ (c : Character). on_deadly s ts c.pos) (g.read k l l (d.present k ∙ p));
      tunings = removed_kept (λ v. v.tunings ≡ w.tunings) (λ v k e. e) ids moves refl;
    }
      where
        moves : World
        moves = record { slots = m.slots; tunings = w.tunings }

        ids : List ℕ
        ids = dying n s ts m.slots

        -- who is removed was there
        was : (j : ℕ) → is_in j ids ≡ true → (slot_at w.slots j).present ≡ true
        was j e = sym (f.same.present j ∙ d.present j) ∙ (both (slot_at m.slots j).present _ (sym (dying_are n s ts m.slots j (dying_within n s ts m.slots j e)) ∙ e)).0

        alone : (k : ℕ) → k < n → Nobody k → (slot_at (remove_all moves ids).slots k).present ≡ true → (slot_at (remove_all moves ids).slots k).character ≡ from_net (record_at m.records k).core
        alone k l q p =
            let here = sym (removed_present k ids moves (λ e. present_within m.slots k (f.same.present k ∙ d.present k ∙ was k e))) ∙ p in
            let none : ids ≡ [] = nobody_in ids (λ j. either_way (is_in j ids) (λ e. absurd (gone k l q here j e)) (λ e. e)) in
            subst (λ (js : List ℕ). (slot_at (remove_all moves js).slots k).character ≡ from_net (record_at m.records k).core) (sym none) (g.read k l l (d.present k ∙ there k here))
          where
            there : (k : ℕ) → cond (is_in k ids) false (slot_at m.slots k).present ≡ true → (slot_at w.slots k).present ≡ true
            there k e = sym (f.same.present k ∙ d.present k) ∙ (not_gone (is_in k ids) (slot_at m.slots k).present e).1

            gone : (k : ℕ) → k < n → Nobody k → cond (is_in k ids) false (slot_at m.slots k).present ≡ true → (j : ℕ) → is_in j ids ≡ true → ⊥
            gone k l q here j e = either_way (eqb j k) (λ z. true≢false (sym (subst (λ (i : ℕ). is_in i ids ≡ true) (eqb-true j k z) e) ∙ (not_gone (is_in k ids) (slot_at m.slots k).present here).0)) (λ z. true≢false (sym (was j e) ∙ q j (dying_within n s ts m.slots j e) (eqb-false j k z)))

    ticked : (a : Turn (List Slot) ℕ) → Ends (Same w.slots) (λ r. 0 < r) a → Leaves (step_answer n w s ts (next (λ us. move_all n us s ts tuning) a))
    ticked (stop k) f = stopped k f
    ticked (more us) d = moved us d (move_all n us s ts tuning) (moves-settle n s ts tuning us) (published tuning us)

    pub step-leaves : Leaves (step n w s ts)
    unfolding step step_on
    step-leaves = by_test Leaves (is_map s ts) (λ e. ticked (tick_all n w.slots s ts tuning) (ticks_same n s ts tuning w.slots)) (λ e. stopped 1 (omega arith))
