-- When the records of a step are taken: whoever is there is what its record reads as, and every input is as it was. Assumes nothing.
use Prim.Native.Nat.{ℕ, suc, ◌<◌}
use native.Mathlib.Omega.{arith}
use mathlib.Core.Bool.{true, false, true≢false}
use mathlib.Core.List.{List}
use mathlib.Core.Logic.{⊎_elim}
use mathlib.Core.Path.{◌≡◌, refl, sym, ap, ◌∙◌, subst}
use lib.ListN.{length, set, length-set, length-replicate}
use lib.Seq.{get_or-set_same, get_or-set_other}
use Rattle.base_turns.specs.Turns.{run}
use Rattle.base_turns.proofs.Kept.{Ends, run-kept}
use Rattle.map_tiles.specs.declared.tiles.Sides.{Sides}
use Rattle.game_records.specs.declared.CharacterCore.{CharacterCore}
use Rattle.game_tuning.specs.declared.Tuning.{Tuning}
use Rattle.character.specs.Records.{from_net}
use Rattle.character.specs.Slot.{with_character}
use Rattle.character.specs.Tick.{slot_at, nowhere, after_pull, tick_at}
use Rattle.character.specs.declared.Slot.{Slot}
use Rattle.character_laws.proofs.Others.{pulled_others}
use Rattle.character_laws.proofs.Slots.{set_every}
use Rattle.world.specs.Demand3.{record_at}
use Rattle.world.specs.Step.{Moving, unpublished, after_tick, tick_turn, tick_all, record_of, publish, move_in, move_turn, moving_from, move_all}
use Rattle.world.specs.declared.Published.{Published}
use Rattle.world.proofs.Seats.{by_test, last_or_below, present_within}
use Rattle.std.specs.Prelude.{Result, Ok, Err}
use Rattle.character.specs.declared.tick.AfterTick.{AfterTick}
use Rattle.game_refusals.specs.declared.Refusal.{Refusal}

module _ (n : ℕ) (s : Sides) (ts : List ℕ) (t : Tuning) (ss : List Slot) where
  -- every input is as in ss
  abbrev pub SameInput : List Slot → Type 0
  SameInput us = (k : ℕ) → (slot_at us k).input ≡ (slot_at ss k).input

  -- ---- the ticks
  tick_turn_lem : (i : ℕ) (us : List Slot) → SameInput us → Ends SameInput (λ r. Unit {0}) (tick_turn n s ts t i us)
  tick_turn_lem i us h = let x = slot_at us i in by_test (Ends SameInput (λ r. Unit {0})) x.present (λ p. ticks (tick_at n x.character i us s ts x.input t)) (λ p. h)
    where
      ticks : (k : Result AfterTick Refusal) → Ends SameInput (λ r. Unit {0}) (after_tick us i k)
      ticks (Err e) = tt
      ticks (Ok a) =
          let vs = after_pull us a.pull in
          let input : SameInput vs = λ k. ap (λ (x : Slot). x.input) (pulled_others us a.pull k) ∙ h k in
          set_every (λ k x. x.input ≡ (slot_at ss k).input) vs i _ nowhere input (input i)

  pub ticks_input : Ends SameInput (λ r. Unit {0}) (tick_all n ss s ts t)
  unfolding tick_all
  ticks_input = run-kept (tick_turn n s ts t) (λ i. SameInput) (λ r. Unit {0}) tick_turn_lem n 0 ss (λ k. refl)

  -- ---- the moves
  -- after i of them
  pub record Reads (i : ℕ) (m : Moving) : Type 0 where
    pub size : length m.records ≡ n
    pub input : SameInput m.slots
    pub reads : (k : ℕ) → k < i → k < n → (slot_at m.slots k).present ≡ true → (slot_at m.slots k).character ≡ from_net (record_at m.records k).core

  module _ (i : ℕ) (m : Moving) (h : Reads i m) where
    module _ (p : (slot_at m.slots i).present ≡ true) (core : CharacterCore) where
      abbrev new : Slot
      new = with_character (slot_at m.slots i) (from_net core)

      abbrev told : Published
      told = record { present = true; core = core }

      -- what is claimed of k after the record of i is published
      abbrev Reading : ℕ → Type 0
      Reading k = (slot_at (set m.slots i new) k).character ≡ from_net (record_at (set m.records i told) k).core

      own : i < n → Reading i
      own l = ap (λ (x : Slot). x.character) (get_or-set_same m.slots i new nowhere (present_within m.slots i p)) ∙ sym (ap (λ (x : Published). from_net x.core) (get_or-set_same m.records i told unpublished (omega (arith, h.size))))

      other : (k : ℕ) → k < i → k < n → (slot_at (set m.slots i new) k).present ≡ true → Reading k
      other k l b q =
          let e = get_or-set_other m.slots i k new nowhere (λ z. omega arith) in
          ap (λ (x : Slot). x.character) e ∙ h.reads k l b (sym (ap (λ (x : Slot). x.present) e) ∙ q) ∙ sym (ap (λ (x : Published). from_net x.core) (get_or-set_other m.records i k told unpublished (λ z. omega arith)))

      publishes : Reads (suc i) (record { slots = set m.slots i new; records = set m.records i told })
      publishes = record {
        size = length-set m.records i told ∙ h.size;
        input = set_every (λ k x. x.input ≡ (slot_at ss k).input) m.slots i new nowhere h.input (h.input i);
        reads = λ k l b q. ⊎_elim (λ e. subst Reading (sym e) (own (omega (arith, e)))) (λ c. other k c b q) (last_or_below k i l);
      }

    published : (slot_at m.slots i).present ≡ true → (r : Result CharacterCore Refusal) → Ends (Reads (suc i)) (λ r. Unit {0}) (publish m i r)
    published p (Err k) = tt
    published p (Ok core) = publishes p core

    nobody : (slot_at m.slots i).present ≡ false → Reads (suc i) m
    nobody p = record { size = h.size; input = h.input; reads = λ k l b q. ⊎_elim (λ e. absurd (true≢false (sym q ∙ ap (λ (j : ℕ). (slot_at m.slots j).present) e ∙ p))) (λ c. h.reads k c b q) (last_or_below k i l) }

    move_turn_lem : Ends (Reads (suc i)) (λ r. Unit {0}) (move_turn n s ts t i m)
    move_turn_lem = by_test (Ends (Reads (suc i)) (λ r. Unit {0})) (slot_at m.slots i).present (λ p. published p (record_of (move_in n s ts t m.slots i))) nobody

  pub moves_read : Ends (Reads n) (λ r. Unit {0}) (move_all n ss s ts t)
  unfolding move_all
  moves_read = subst (λ (j : ℕ). Ends (Reads j) (λ r. Unit {0}) (run (move_turn n s ts t) n 0 (moving_from n ss))) (omega arith) (run-kept (move_turn n s ts t) Reads (λ r. Unit {0}) move_turn_lem n 0 (moving_from n ss) (record { size = length-replicate n unpublished; input = λ k. refl; reads = λ k l. absurd (omega arith) }))
