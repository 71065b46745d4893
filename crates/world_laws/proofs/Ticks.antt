-- What its own tick makes of a slot stands after all ticks of a step: the others change a velocity at most. Assumes nothing.
use Prim.Native.Nat.{ℕ, suc, ◌+◌, ◌≤◌, ◌<◌}
use native.Mathlib.Omega.{arith}
use mathlib.Core.Bool.{Bool, true, false, true≢false}
use mathlib.Core.List.{List}
use mathlib.Core.Path.{◌≡◌, refl, sym, ap, ◌∙◌, subst}
use lib.Dec.{eqb}
use lib.ListN.{length, set}
use lib.Seq.{get_or-set_same, get_or-set_other}
use borrow.Author.Tests.{eqb-true, eqb-false}
use Rattle.base_turns.specs.Turns.{Turn, more, stop, run}
use Rattle.base_turns.proofs.Kept.{Ends, run-kept}
use Rattle.game_tuning.specs.declared.Tuning.{Tuning}
use Rattle.map_tiles.specs.declared.tiles.Sides.{Sides}
use Rattle.character.specs.Tick.{slot_at, nowhere, after_pull, tick_at, ticked_slot}
use Rattle.character.specs.declared.Slot.{Slot}
use Rattle.character_laws.proofs.Others.{Then, SameButVel, pulled_others, pulled-length}
use Rattle.world.specs.Step.{after_tick, tick_turn, tick_all}
use Rattle.world.proofs.Seats.{by_test, present_within}
use Rattle.std.specs.Prelude.{Result, Ok, Err}
use Rattle.character.specs.declared.tick.AfterTick.{AfterTick}
use Rattle.game_refusals.specs.declared.Refusal.{Refusal}

-- j, its slot before its tick and after it; neither asks for the velocity
module _ (n : ℕ) (s : Sides) (ts : List ℕ) (t : Tuning) (j : ℕ) (Before After : Slot → Type 0)
    (there : (x : Slot) → Before x → x.present ≡ true)
    (before-kept : (x y : Slot) → SameButVel x y → Before x → Before y)
    (after_kept : (x y : Slot) → SameButVel x y → After x → After y)
    (own : (us : List Slot) → Before (slot_at us j) → Then (λ a. (x : Slot) → SameButVel (slot_at us j) x → After (ticked_slot x a)) (tick_at n (slot_at us j).character j us s ts (slot_at us j).input t)) where
  -- before the tick of m
  record Upto (m : ℕ) (us : List Slot) : Type 0 where
    present : (slot_at us j).present ≡ true
    before : m ≤ j → Before (slot_at us j)
    after : j < m → After (slot_at us j)

  below : (m : ℕ) → (m ≡ j → ⊥) → j < suc m → j < m
  below m d l = go (eqb m j) refl
    where
      go : (b : Bool) → eqb m j ≡ b → j < m
      go true e = absurd (d (eqb-true m j e))
      go false e = let q = eqb-false m j e in omega (arith, q)

  mine : (us : List Slot) → Upto j us → (r : Result AfterTick Refusal) → Then (λ a. (x : Slot) → SameButVel (slot_at us j) x → After (ticked_slot x a)) r → Ends (Upto (suc j)) (λ q. Unit {0}) (after_tick us j r)
  mine us h (Err why) e = tt
  mine us h (Ok a) e =
      let vs = after_pull us a.pull in
      let same : SameButVel (slot_at us j) (slot_at vs j) = pulled_others us a.pull j in
      let size : length vs ≡ length us = pulled-length us a.pull in
      let l : j < length vs = let b = present_within us j h.present in omega (arith, size, b) in
      let is : slot_at (set vs j (ticked_slot (slot_at vs j) a)) j ≡ ticked_slot (slot_at vs j) a = get_or-set_same vs j (ticked_slot (slot_at vs j) a) nowhere l in
      record { present = ap (λ (x : Slot). x.present) is ∙ ap (λ (x : Slot). x.present) same ∙ h.present; before = λ b. absurd (omega arith); after = λ b. subst After (sym is) (e (slot_at vs j) same) }

  other : (m : ℕ) (us : List Slot) → Upto m us → (m ≡ j → ⊥) → (r : Result AfterTick Refusal) → Ends (Upto (suc m)) (λ q. Unit {0}) (after_tick us m r)
  other m us h d (Err e) = tt
  other m us h d (Ok a) =
      let vs = after_pull us a.pull in
      let same : SameButVel (slot_at us j) (slot_at vs j) = pulled_others us a.pull j in
      let is : slot_at vs j ≡ slot_at (set vs m (ticked_slot (slot_at vs m) a)) j = sym (get_or-set_other vs m j (ticked_slot (slot_at vs m) a) nowhere (λ e. d (sym e))) in
      record {
        present = ap (λ (x : Slot). x.present) (sym is) ∙ ap (λ (x : Slot). x.present) same ∙ h.present;
        before = λ b. subst Before is (before-kept (slot_at us j) (slot_at vs j) same (h.before (omega arith)));
        after = λ b. subst After is (after_kept (slot_at us j) (slot_at vs j) same (h.after (below m d b)));
      }

  nobody : (m : ℕ) (us : List Slot) → Upto m us → (slot_at us m).present ≡ false → Upto (suc m) us
  nobody m us h p =
      let d : m ≡ j → ⊥ = λ e. true≢false (sym h.present ∙ ap (λ (x : ℕ). (slot_at us x).present) (sym e) ∙ p) in
      record { present = h.present; before = λ b. h.before (omega arith); after = λ b. h.after (below m d b) }

  turn : (m : ℕ) (us : List Slot) → Upto m us → Ends (Upto (suc m)) (λ q. Unit {0}) (tick_turn n s ts t m us)
  turn m us h = by_test (Ends (Upto (suc m)) (λ q. Unit {0})) (slot_at us m).present (λ p. go (eqb m j) refl) (nobody m us h)
    where
      ticks : (x : ℕ) → Result AfterTick Refusal
      ticks x = tick_at n (slot_at us x).character x us s ts (slot_at us x).input t

      go : (c : Bool) → eqb m j ≡ c → Ends (Upto (suc m)) (λ q. Unit {0}) (after_tick us m (ticks m))
      go true e = subst (λ (x : ℕ). Upto x us → Ends (Upto (suc x)) (λ q. Unit {0}) (after_tick us x (ticks x))) (sym (eqb-true m j e)) (λ g. mine us g (ticks j) (own us (g.before (omega arith)))) h
      go false e = other m us h (eqb-false m j e) (ticks m)

  pub ticks_own : j < n → (us : List Slot) → Before (slot_at us j) → Ends (λ vs. After (slot_at vs j)) (λ q. Unit {0}) (tick_all n us s ts t)
  unfolding tick_all
  ticks_own l us h = all (run (tick_turn n s ts t) n 0 us) (run-kept (tick_turn n s ts t) Upto (λ q. Unit {0}) turn n 0 us (record { present = there (slot_at us j) h; before = λ b. h; after = λ b. absurd (omega arith) }))
    where
      all : (a : Turn (List Slot) ℕ) → Ends (Upto (n + 0)) (λ q. Unit {0}) a → Ends (λ vs. After (slot_at vs j)) (λ q. Unit {0}) a
      all (more vs) q = q.after (omega arith)
      all (stop r) q = tt
