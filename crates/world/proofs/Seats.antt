-- What the ticks and the moves of a step leave of the slots, whatever player collision is. Assumes nothing.
use Prim.Native.Nat.{ℕ, zero, suc, ◌<◌}
use native.Mathlib.Omega.{arith}
use native.Mathlib.Nat.{eq-or-lt_of_le}
use mathlib.Core.Bool.{Bool, true, false, cond, true≢false}
use mathlib.Core.List.{List, [], ◌∷◌}
use mathlib.Core.Logic.{◌⊎◌, ⊎_elim}
use mathlib.Core.Path.{◌≡◌, refl, sym, ap, ◌∙◌, subst}
use lib.ListN.{length, set, length-set}
use Rattle.base_turns.specs.Turns.{run}
use Rattle.base_turns.proofs.Kept.{Ends, run-kept}
use Rattle.map_tiles.specs.declared.tiles.Sides.{Sides}
use Rattle.game_tuning.specs.declared.Tuning.{Tuning}
use Rattle.game_records.specs.declared.CharacterCore.{CharacterCore}
use Rattle.character_meeting.specs.declared.meeting.HookPull.{HookPull}
use Rattle.character.specs.declared.Character.{Character}
use Rattle.character.specs.declared.Slot.{Slot}
use Rattle.character.specs.Tick.{slot_at, nowhere, after_pull, tick_at}
use Rattle.character.specs.Records.{to_net, from_net, quantize}
use Rattle.character_laws.specs.Representable.{Representable}
use Rattle.character_laws.proofs.FromNet.{quantized_representable}
use Rattle.character_laws.proofs.Slots.{set_every, set_others}
use Rattle.character_laws.proofs.Others.{Then, There, tick_there, pulled_others, pulled_absent, pulled-length}
use Rattle.world.specs.Step.{Moving, after_tick, tick_turn, tick_all, of_net, record_of, publish, move_in, move_turn, moving_from, move_all}
use Rattle.std.specs.Prelude.{Option, Result, Ok, Err}
use Rattle.character.specs.declared.tick.AfterTick.{AfterTick}
use Rattle.game_refusals.specs.declared.Refusal.{Refusal}
use Rattle.game_refusals.specs.declared.Refusal.TheVariants.{TooFar}

-- the last of the indices below i + 1, or one before it
pub last_or_below : (k i : ℕ) → k < suc i → (k ≡ i) ⊎ (k < i)
last_or_below k i h = eq-or-lt_of_le (omega arith)

-- somebody is there only within the list
pub present_within : (ss : List Slot) (j : ℕ) → (slot_at ss j).present ≡ true → j < length ss
present_within [] j e = absurd (true≢false (sym e))
present_within (x ∷ ss) zero e = omega arith
present_within (x ∷ ss) (suc j) e = let h : j < length ss = present_within ss j e in omega arith

-- a fact of what a test picks, from either way
pub by_test : {A : Type 0} (P : A → Type 0) (b : Bool) {x y : A} → (b ≡ true → P x) → (b ≡ false → P y) → P (cond b x y)
by_test P true f g = f refl
by_test P false f g = g refl

-- what a record of a character reads as
pub net_representable : (c : Character) (core : CharacterCore) → to_net c ≡ Ok core → Representable (from_net core)
unfolding quantize
net_representable c core e = quantized_representable c (from_net core) (rw e)

-- ---- slots as they were

-- as many as in ss, the same ones present, and where nobody is the slot as it was
pub record Same (ss us : List Slot) : Type 0 where
  pub size : length us ≡ length ss
  pub present : (k : ℕ) → (slot_at us k).present ≡ (slot_at ss k).present
  pub absent : (k : ℕ) → (slot_at ss k).present ≡ false → slot_at us k ≡ slot_at ss k

same_self : (ss : List Slot) → Same ss ss
same_self ss = record { size = refl; present = λ k. refl; absent = λ k q. refl }

pub same_on : (ss us vs : List Slot) → Same ss us → Same us vs → Same ss vs
same_on ss us vs a b = record {
  size = b.size ∙ a.size;
  present = λ k. b.present k ∙ a.present k;
  absent = λ k q. b.absent k (a.present k ∙ q) ∙ a.absent k q;
}

-- a slot where somebody is may become any where somebody is
same_set : (ss : List Slot) (j : ℕ) (x : Slot) → (slot_at ss j).present ≡ true → x.present ≡ (slot_at ss j).present → Same ss (set ss j x)
same_set ss j x p e = record {
  size = length-set ss j x;
  present = set_every (λ k y. y.present ≡ (slot_at ss k).present) ss j x nowhere (λ k. refl) e;
  absent = set_every (λ k y. (slot_at ss k).present ≡ false → y ≡ slot_at ss k) ss j x nowhere (λ k q. refl) (λ q. absurd (true≢false (sym p ∙ q)));
}

-- so may the velocity of whom a hook pulls
pull_same : (ss : List Slot) (k : Option HookPull) → There ss k → Same ss (after_pull ss k)
pull_same ss k h = record {
  size = pulled-length ss k;
  present = λ j. ap (λ (x : Slot). x.present) (pulled_others ss k j);
  absent = pulled_absent ss k h;
}

module _ (n : ℕ) (s : Sides) (ts : List ℕ) (t : Tuning) where
  -- ---- the ticks
  tick_turn_lem : (ss : List Slot) (j : ℕ) (us : List Slot) → Same ss us → Ends (Same ss) (λ r. 0 < r) (tick_turn n s ts t j us)
  tick_turn_lem ss j us h = let x = slot_at us j in by_test (Ends (Same ss) (λ r. 0 < r)) x.present (λ p. ticks p (tick_at n x.character j us s ts x.input t) (tick_there n x.character j us s ts x.input t)) (λ p. h)
    where
      ticks : (slot_at us j).present ≡ true → (k : Result AfterTick Refusal) → Then (λ a. There us a.pull) k → Ends (Same ss) (λ r. 0 < r) (after_tick us j k)
      ticks p (Err e) z = omega arith
      ticks p (Ok a) z =
          let vs = after_pull us a.pull in
          let same = pull_same us a.pull z in
          same_on ss us _ h (same_on us vs _ same (same_set vs j _ (same.present j ∙ p) refl))

  -- a number that refuses the ticks is not 0
  pub ticks_same : (ss : List Slot) → Ends (Same ss) (λ r. 0 < r) (tick_all n ss s ts t)
  unfolding tick_all
  ticks_same ss = run-kept (tick_turn n s ts t) (λ i. Same ss) (λ r. 0 < r) (tick_turn_lem ss) n 0 ss (same_self ss)

  -- ---- the moves
  module _ (ss : List Slot) where
    -- after i moves: who has moved is representable
    pub record Settling (i : ℕ) (m : Moving) : Type 0 where
      pub same : Same ss m.slots
      pub moved : (k : ℕ) → k < i → (slot_at m.slots k).present ≡ true → Representable (slot_at m.slots k).character

    pub move_turn_lem : (i : ℕ) (m : Moving) → Settling i m → Ends (Settling (suc i)) (λ r. 0 < r) (move_turn n s ts t i m)
    unfolding record_of
    move_turn_lem i m h = by_test (Ends (Settling (suc i)) (λ r. 0 < r)) (slot_at m.slots i).present (λ p. recorded p (move_in n s ts t m.slots i)) nobody
      where
        named : (slot_at m.slots i).present ≡ true → (c : Character) (o : Result CharacterCore Refusal) → to_net c ≡ o → Ends (Settling (suc i)) (λ r. 0 < r) (publish m i (of_net o))
        named p c (Err why) e = omega arith
        named p c (Ok core) e = record {
          same = same_on ss m.slots _ h.same (same_set m.slots i _ p refl);
          moved = set_others (λ k x. k < suc i → x.present ≡ true → Representable x.character) m.slots i _ nowhere (present_within m.slots i p) (λ k d l. h.moved k (omega arith)) (λ l q. net_representable c core e);
        }

        recorded : (slot_at m.slots i).present ≡ true → (d : Result Character Refusal) → Ends (Settling (suc i)) (λ r. 0 < r) (publish m i (record_of d))
        recorded p (Err e) = omega arith
        recorded p (Ok c) = named p _ (to_net _) refl

        nobody : (slot_at m.slots i).present ≡ false → Settling (suc i) m
        nobody p = record { same = h.same; moved = λ k l. ⊎_elim (λ e. λ q. absurd (true≢false (sym q ∙ ap (λ (j : ℕ). (slot_at m.slots j).present) e ∙ p))) (h.moved k) (last_or_below k i l) }

    pub nobody-moved : Settling 0 (moving_from n ss)
    nobody-moved = record { same = same_self ss; moved = λ k l. absurd (omega arith) }

    -- a number that refuses the moves is not 0
    pub moves-settle : Ends (Settling n) (λ r. 0 < r) (move_all n ss s ts t)
    unfolding move_all
    moves-settle = subst (λ (j : ℕ). Ends (Settling j) (λ r. 0 < r) (run (move_turn n s ts t) n 0 (moving_from n ss))) (omega arith) (run-kept (move_turn n s ts t) Settling (λ r. 0 < r) move_turn_lem n 0 (moving_from n ss) nobody-moved)
