-- The record of each present id in an accepted step is that of the character that its move left, which differs from the ticked one in position and velocity alone. Assumes nothing.
use Prim.Native.Nat.{ℕ, suc, ◌+◌, ◌≤◌, ◌<◌}
use native.Mathlib.Omega.{arith}
use mathlib.Core.Bool.{Bool, true, false, cond, true≢false}
use mathlib.Core.List.{List}
use mathlib.Core.Logic.{⊎_elim}
use mathlib.Core.Path.{◌≡◌, refl, sym, ap, ◌∙◌, subst}
use lib.ListN.{length, set, length-set, length-replicate}
use lib.Seq.{get_or-set_same, get_or-set_other}
use Rattle.base_turns.specs.Turns.{Turn, more, stop, next, run}
use Rattle.base_turns.proofs.Kept.{Ends, run-kept}
use Rattle.base_turns.proofs.Last.{run_last}
use Rattle.game_records.specs.declared.CharacterCore.{CharacterCore}
use Rattle.game_tuning.specs.Tuning.{tuning_of}
use Rattle.game_tuning.specs.declared.Tuning.{Tuning}
use Rattle.map_tiles.specs.Map.{is_map}
use Rattle.map_tiles.specs.declared.tiles.Sides.{Sides}
use Rattle.character.specs.Records.{core_of, to_net, from_net}
use Rattle.character.specs.Slot.{with_character}
use Rattle.character.specs.Tick.{slot_at, nowhere}
use Rattle.character.specs.Walk.{moved_to}
use Rattle.character.specs.declared.Character.{Character}
use Rattle.character.specs.declared.Slot.{Slot}
use Rattle.character_laws.proofs.Back.{record_of_lem}
use Rattle.character_laws.proofs.Held.{Rests, move_rest}
use Rattle.world.specs.Demand3.{left_in, left, record_at}
use Rattle.world.specs.Step.{Moving, unpublished, tick_all, of_net, record_of, publish, move_in, move_turn, moving_from, move_all, step_answer, step_on, step}
use Rattle.world.specs.declared.Published.{Published}
use Rattle.world.specs.Answered.{Stepped}
use Rattle.world.specs.declared.World.{World}
use Rattle.world.proofs.Moves.{left_from}
use Rattle.world.proofs.Seats.{by_test, last_or_below, ticks_same, Same, Settling, moves-settle}
use Rattle.std.specs.Prelude.{Result, Ok, Err}
use Rattle.game_refusals.specs.declared.Refusal.{Refusal}

module _ (n : ℕ) (s : Sides) (ts : List ℕ) (t : Tuning) (ss : List Slot) where
  -- p is the record of what the move left of k, where the moves begin with ss
  pub record TakenOf (k : ℕ) (p : Published) : Type 0 where
    pub made : Character
    pub left : left_from n s ts t ss k ≡ Ok made
    pub rest : made ≡ moved_to (slot_at ss k).character made.pos made.vel
    pub is : p ≡ record { present = true; core = core_of made }

  -- after i moves
  record Sofar (i : ℕ) (m : Moving) : Type 0 where
    reached : run (move_turn n s ts t) i 0 (moving_from n ss) ≡ more m
    size : length m.records ≡ n
    waits : (k : ℕ) → i ≤ k → slot_at m.slots k ≡ slot_at ss k
    taken : (k : ℕ) → k < i → k < n → (slot_at ss k).present ≡ true → TakenOf k (record_at m.records k)

  module _ (i : ℕ) (m : Moving) (h : Sofar i m) where
    reaches : (v : Moving) → move_turn n s ts t i m ≡ more v → run (move_turn n s ts t) (suc i) 0 (moving_from n ss) ≡ more v
    reaches v e = run_last (move_turn n s ts t) i 0 (moving_from n ss) ∙ ap (next (move_turn n s ts t (i + 0))) h.reached ∙ ap (λ (j : ℕ). move_turn n s ts t j m) (omega arith) ∙ e

    nobody : (slot_at m.slots i).present ≡ false → move_turn n s ts t i m ≡ more m → Sofar (suc i) m
    nobody p e = record {
      reached = reaches m e;
      size = h.size;
      waits = λ k l. h.waits k (omega arith);
      taken = λ k l b q. ⊎_elim (λ z. absurd (true≢false (sym q ∙ ap (λ (j : ℕ). (slot_at ss j).present) z ∙ sym (ap (λ (x : Slot). x.present) (h.waits i (omega arith))) ∙ p))) (λ c. h.taken k c b q) (last_or_below k i l);
    }

    module _ (p : (slot_at m.slots i).present ≡ true) (c : Character) (q : move_in n s ts t m.slots i ≡ Ok c) (core : CharacterCore) (r : core ≡ core_of c) where
      abbrev new : Moving
      new = record { slots = set m.slots i (with_character (slot_at m.slots i) (from_net core)); records = set m.records i (record { present = true; core = core }) }

      own-rest : c ≡ moved_to (slot_at ss i).character c.pos c.vel
      own-rest = subst (Rests (λ d. d ≡ moved_to (slot_at m.slots i).character d.pos d.vel)) q (move_rest n (slot_at m.slots i).character i m.slots s ts t) ∙ ap (λ (x : Slot). moved_to x.character c.pos c.vel) (h.waits i (omega arith))

      own : i < n → TakenOf i (record_at new.records i)
      own l = record {
        made = c;
        left = ap (left_in n s ts t i) h.reached ∙ q;
        rest = own-rest;
        is = get_or-set_same m.records i (record { present = true; core = core }) unpublished (omega (arith, h.size)) ∙ ap (λ (k : CharacterCore). record { present = true; core = k }) r;
      }

      publishes : move_turn n s ts t i m ≡ more new → Sofar (suc i) new
      publishes e = record {
        reached = reaches new e;
        size = length-set m.records i _ ∙ h.size;
        waits = λ k l. get_or-set_other m.slots i k _ nowhere (λ z. omega (arith, z)) ∙ h.waits k (omega arith);
        taken = λ k l b w. ⊎_elim (λ z. subst (λ (j : ℕ). TakenOf j (record_at new.records j)) (sym z) (own (omega (arith, z)))) (λ a. subst (TakenOf k) (sym (get_or-set_other m.records i k _ unpublished (λ z. omega (arith, z)))) (h.taken k a b w)) (last_or_below k i l);
      }

    turn : Ends (Sofar (suc i)) (λ r. Unit {0}) (move_turn n s ts t i m)
    unfolding record_of
    turn = go (slot_at m.slots i).present refl refl
      where
        nets : (slot_at m.slots i).present ≡ true → (c : Character) → move_in n s ts t m.slots i ≡ Ok c → (o : Result CharacterCore Refusal) → to_net c ≡ o → move_turn n s ts t i m ≡ publish m i (of_net o) → Ends (Sofar (suc i)) (λ r. Unit {0}) (publish m i (of_net o))
        nets p c q (Err why) w e = tt
        nets p c q (Ok core) w e = publishes p c q core (record_of_lem c core w).0 e

        moves : (slot_at m.slots i).present ≡ true → (o : Result Character Refusal) → move_in n s ts t m.slots i ≡ o → move_turn n s ts t i m ≡ publish m i (record_of o) → Ends (Sofar (suc i)) (λ r. Unit {0}) (publish m i (record_of o))
        moves p (Err why) q e = tt
        moves p (Ok c) q e = nets p c q (to_net c) refl e

        go : (b : Bool) → (slot_at m.slots i).present ≡ b → move_turn n s ts t i m ≡ cond b (publish m i (record_of (move_in n s ts t m.slots i))) (more m) → Ends (Sofar (suc i)) (λ r. Unit {0}) (cond b (publish m i (record_of (move_in n s ts t m.slots i))) (more m))
        go true p e = moves p (move_in n s ts t m.slots i) refl e
        go false p e = nobody p e

  pub moves_taken : Ends (λ m. (k : ℕ) → k < n → (slot_at ss k).present ≡ true → TakenOf k (record_at m.records k)) (λ r. Unit {0}) (move_all n ss s ts t)
  unfolding move_all run
  moves_taken = all (run (move_turn n s ts t) n 0 (moving_from n ss)) (run-kept (move_turn n s ts t) Sofar (λ r. Unit {0}) turn n 0 (moving_from n ss) (record { reached = refl; size = length-replicate n unpublished; waits = λ k l. refl; taken = λ k l. absurd (omega arith) }))
    where
      all : (a : Turn Moving ℕ) → Ends (Sofar (n + 0)) (λ r. Unit {0}) a → Ends (λ m. (k : ℕ) → k < n → (slot_at ss k).present ≡ true → TakenOf k (record_at m.records k)) (λ r. Unit {0}) a
      all (more m) h = λ k l. h.taken k (omega arith) l
      all (stop r) h = tt

-- ---- a step on w
-- P of the slots after the ticks, and the records that the moves take of them
pub record StepTaken (n : ℕ) (w : World) (s : Sides) (ts : List ℕ) (P : List Slot → Type 0) : Type 0 where
  pub slots : List Slot
  pub ticked : P slots
  pub same : Same w.slots slots
  pub taken : (k : ℕ) → k < n → (slot_at slots k).present ≡ true → TakenOf n s ts (tuning_of w.tunings) slots k (record_at (step n w s ts).records k)
  pub left : (k : ℕ) → left_from n s ts (tuning_of w.tunings) slots k ≡ left n w s ts k

module _ (n : ℕ) (w : World) (s : Sides) (ts : List ℕ) (P : List Slot → Type 0) (R : ℕ → Type 0) (h : Ends P R (tick_all n w.slots s ts (tuning_of w.tunings))) where
  abbrev t : Tuning
  t = tuning_of w.tunings

  moves : (us : List Slot) → P us → Same w.slots us → tick_all n w.slots s ts t ≡ more us → (a : Turn Moving ℕ) → Ends (λ m. (k : ℕ) → k < n → (slot_at us k).present ≡ true → TakenOf n s ts t us k (record_at m.records k)) (λ r. Unit {0}) a → (step_answer n w s ts a).records ≡ (step n w s ts).records → (step_answer n w s ts a).number ≡ 0 → Ends (λ r. Unit {0}) (λ r. 0 < r) a → StepTaken n w s ts P
  moves us p d e (stop k) q z f l = absurd (omega (arith, l, f))
  moves us p d e (more m) q z f l = record {
    slots = us;
    ticked = p;
    same = d;
    taken = λ k b r. subst (λ (rs : List Published). TakenOf n s ts t us k (record_at rs k)) z (q k b r);
    left = λ k. sym (ap (λ (a : Turn (List Slot) ℕ). left_in n s ts t k (next (λ vs. run (move_turn n s ts t) k 0 (moving_from n vs)) a)) e);
  }

  ticks : (a : Turn (List Slot) ℕ) → tick_all n w.slots s ts t ≡ a → Ends P R a → Ends (Same w.slots) (λ r. 0 < r) a → (step_answer n w s ts (next (λ us. move_all n us s ts t) a)).records ≡ (step n w s ts).records → (step_answer n w s ts (next (λ us. move_all n us s ts t) a)).number ≡ 0 → StepTaken n w s ts P
  ticks (stop k) e p l z f = absurd (omega (arith, l, f))
  ticks (more us) e p d z f = moves us p d e (move_all n us s ts t) (moves_taken n s ts t us) z f (settled (move_all n us s ts t) (moves-settle n s ts t us))
    where
      settled : (a : Turn Moving ℕ) → Ends (Settling n s ts t us n) (λ r. 0 < r) a → Ends (λ m. Unit {0}) (λ r. 0 < r) a
      settled (more m) q = tt
      settled (stop k) q = q

  pub step-taken : (step n w s ts).number ≡ 0 → StepTaken n w s ts P
  unfolding step step_on
  step-taken = by_test (λ (a : Stepped). a.records ≡ (step n w s ts).records → a.number ≡ 0 → StepTaken n w s ts P) (is_map s ts) (λ m. ticks (tick_all n w.slots s ts t) refl h (ticks_same n s ts t w.slots)) (λ m z e. absurd (omega (arith, e))) refl
