-- With which numbers a step answers: 0, 1 or 9, and never 10, since no hook holds for longer than the world's hold. Assumes nothing.
use Prim.Native.Nat.{ℕ, suc, ◌+◌, ◌≤◌, ◌<◌}
use native.Mathlib.Omega.{arith}
use native.Mathlib.Nat.{le_trans}
use mathlib.Core.Bool.{Bool, true, false, cond, true≢false}
use mathlib.Core.List.{List}
use mathlib.Core.Logic.{◌⊎◌, inl, inr, ⊎_elim}
use mathlib.Core.Path.{◌≡◌, refl, sym, ap, ◌∙◌, subst}
use lib.IntN.{pos}
use lib.ListN.{length, length-set, replicate}
use Rattle.base_turns.specs.Turns.{Turn, more, stop, next, run}
use Rattle.base_turns.proofs.Kept.{Ends, run-kept}
use Rattle.num_convert.specs.Casts.{cast_signed, cast_unsigned}
use Rattle.num_vec2.specs.declared.vec2.{vec2}
use Rattle.character_hook.specs.Hook.{id_of, net_state, tick_of, net_hooked_player, nobody, attached_or_grabbed, hook_from_net}
use Rattle.character_hook.specs.declared.hook.Hook.{Hook}
use Rattle.character_hook.specs.declared.hook.Hook.TheVariants.{Retracted, Idle, Flying, Grabbed, Attached, Retracting0, Retracting1, Retracting2}
use Rattle.character_hook.proofs.Hold.{hold-short}
use Rattle.character_motion.specs.Controls.{grounded}
use Rattle.game_records.specs.declared.PlayerInput.{PlayerInput}
use Rattle.map_tiles.specs.declared.tiles.Sides.{Sides}
use Rattle.map_tiles.specs.Map.{is_map}
use Rattle.game_tuning.specs.Tuning.{hold_of, tuning_of}
use Rattle.game_tuning.proofs.Hold.{hold_most}
use Rattle.game_tuning.specs.declared.Tuning.{Tuning}
use Rattle.character.specs.Character.{spawn}
use Rattle.character.specs.Slot.{with_character}
use Rattle.character.specs.Records.{core_of, to_net, from_net}
use Rattle.character_laws.proofs.Back.{to_core}
use Rattle.character.specs.declared.Character.{Character}
use Rattle.character.specs.declared.Slot.{Slot}
use Rattle.character.specs.declared.tick.AfterTick.{AfterTick}
use Rattle.character.specs.Tick.{slot_at, nowhere, steer, flight, after_pull, hooked, ticked, tick_at}
use Rattle.character_laws.proofs.Held.{Rests, move_hook}
use Rattle.character_laws.proofs.Slots.{set_every, set_others, replicate_every}
use Rattle.character_laws.proofs.Others.{Then, pulled_others, pulled-length}
use Rattle.world.specs.Demand3.{record_at}
use Rattle.world.specs.Hold.{TicksWithin}
use Rattle.world.specs.Removal.{dying, remove_all}
use Rattle.world.specs.Step.{unpublished, Moving, after_tick, tick_turn, tick_all, of_net, record_of, publish, move_in, move_turn, moving_from, move_all, step_answer, step_on, step}
use Rattle.world.specs.Answered.{Stepped}
use Rattle.world.specs.declared.World.{World}
use Rattle.world.proofs.Removal.{removed_every}
use Rattle.world.proofs.Vacated.{released-kept}
use Rattle.world.proofs.Seats.{last_or_below, present_within, by_test}
use Rattle.std.specs.Prelude.{Result, Ok, Err}
use Rattle.game_refusals.specs.declared.Refusal.{Refusal}

-- the record that a hook makes reads as one that has held for no longer
hook_back_lem : (h : Hook) (p d : vec2) → tick_of (hook_from_net (net_state h) p d (net_hooked_player h) (record { 0 = pos (tick_of h) })) ≤ tick_of h
unfolding tick_of hook_from_net net_state net_hooked_player attached_or_grabbed cast_unsigned
hook_back_lem Retracted p d = omega arith
hook_back_lem Idle p d = omega arith
hook_back_lem (Flying a b) p d = omega arith
hook_back_lem (Grabbed c t) p d = go (nobody (cast_signed c.0))
  where
    go : (b : Bool) → tick_of (cond b (Attached p) (Grabbed (id_of (cast_unsigned (cast_signed c.0))) t)) ≤ t
    go true = omega arith
    go false = omega arith
hook_back_lem (Attached a) p d = omega arith
hook_back_lem (Retracting0 a) p d = omega arith
hook_back_lem (Retracting1 a) p d = omega arith
hook_back_lem (Retracting2 a) p d = omega arith

back-short : (c : Character) (m : ℕ) → tick_of c.hook ≤ m → tick_of (from_net (core_of c)).hook ≤ m
unfolding core_of from_net
back-short c m l = le_trans (hook_back_lem c.hook _ _) l

pub core_within : (c : Character) (m : ℕ) → tick_of c.hook ≤ m → TicksWithin m (core_of c)
unfolding core_of
core_within c m l = record { ticks = tick_of c.hook; told = refl; within = l }

-- ---- ticks
-- for how long a hook holds
abbrev most : Tuning → ℕ
most t = hold_of t.hook_hold

abbrev Short : Tuning → Slot → Type 0
Short t x = x.present ≡ true → tick_of x.character.hook ≤ most t

abbrev ShortAfter : Tuning → AfterTick → Type 0
ShortAfter t a = tick_of a.me.hook ≤ most t

-- a tick that is not refused goes on with such a hook
pub tick-short : (n : ℕ) (c : Character) (id : ℕ) (ss : List Slot) (s : Sides) (ts : List ℕ) (i : PlayerInput) (t : Tuning) → Then (ShortAfter t) (tick_at n c id ss s ts i t)
unfolding tick_at hooked
tick-short n c id ss s ts i t = let d = steer c (grounded s ts c.pos) i t in go d (flight n d.hook c.pos id ss s ts t)
  where
    go : (d : Character) (f : Result Hook Refusal) → Then (ShortAfter t) (ticked n d (grounded s ts c.pos) id ss t f)
    go d (Err e) = tt
    go d (Ok h) = hold-short h t.hook_hold

module _ (n : ℕ) (s : Sides) (ts : List ℕ) (t : Tuning) where
  -- after i ticks, of n slots those that have ticked
  abbrev Ticks : ℕ → List Slot → Type 0
  Ticks i us = (length us ≤ n) × ((k : ℕ) → k < i → Short t (slot_at us k))

  tick_turn_lem : (i : ℕ) (us : List Slot) → Ticks i us → Ends (Ticks (suc i)) (λ r. r ≡ 9) (tick_turn n s ts t i us)
  tick_turn_lem i us h = by_test (Ends (Ticks (suc i)) (λ r. r ≡ 9)) (slot_at us i).present (λ p. ticks p (tick_at n c i us s ts (slot_at us i).input t) (tick-short n c i us s ts (slot_at us i).input t)) nobody
    where
      c : Character
      c = (slot_at us i).character

      ticks : (slot_at us i).present ≡ true → (k : Result AfterTick Refusal) → Then (ShortAfter t) k → Ends (Ticks (suc i)) (λ r. r ≡ 9) (after_tick us i k)
      ticks p (Err e) z = refl
      ticks p (Ok a) z =
          let vs = after_pull us a.pull in
          let l = present_within us i p in
          let b = pulled-length us a.pull in
          let others : (j : ℕ) → j < i → Short t (slot_at vs j) = λ j q. subst (Short t) (sym (pulled_others us a.pull j)) (h.1 j q) in
          (subst (λ (m : ℕ). m ≤ n) (sym (length-set vs i _)) (omega (arith, h.0)), set_others (λ j x. j < suc i → Short t x) vs i _ nowhere (omega arith) (λ j d q. others j (omega arith)) (λ q r. z))

      nobody : (slot_at us i).present ≡ false → Ticks (suc i) us
      nobody p = (h.0, λ j l. ⊎_elim (λ e. λ q. absurd (true≢false (sym q ∙ ap (λ (m : ℕ). (slot_at us m).present) e ∙ p))) (h.1 j) (last_or_below j i l))

  ticks_short : (us : List Slot) → length us ≤ n → Ends (Ticks n) (λ r. r ≡ 9) (tick_all n us s ts t)
  unfolding tick_all
  ticks_short us full = ends (run-kept (tick_turn n s ts t) Ticks (λ r. r ≡ 9) tick_turn_lem n 0 us (full, λ k l. absurd (omega arith)))
    where
      ends : Ends (Ticks (n + 0)) (λ r. r ≡ 9) (run (tick_turn n s ts t) n 0 us) → Ends (Ticks n) (λ r. r ≡ 9) (run (tick_turn n s ts t) n 0 us)
      ends = subst (λ (j : ℕ). Ends (Ticks j) (λ r. r ≡ 9) (run (tick_turn n s ts t) n 0 us)) (omega arith)

-- ---- moves
module _ (n : ℕ) (s : Sides) (ts : List ℕ) (t : Tuning) where
  -- before and after each move, of every slot and of every record
  record Moves (m : Moving) : Type 0 where
    short : (k : ℕ) → Short t (slot_at m.slots k)
    told : (k : ℕ) → TicksWithin (most t) (record_at m.records k).core

  move_turn_lem : (i : ℕ) (m : Moving) → Moves m → Ends Moves (λ r. r ≡ 9) (move_turn n s ts t i m)
  unfolding record_of
  move_turn_lem i m h = by_test (Ends Moves (λ r. r ≡ 9)) (slot_at m.slots i).present (λ p. moves p (move_in n s ts t m.slots i) (move_hook n c i m.slots s ts t)) (λ p. h)
    where
      c : Character
      c = (slot_at m.slots i).character

      -- the record of a character whose hook is c's is published
      records : (slot_at m.slots i).present ≡ true → (d : Character) → d.hook ≡ c.hook → Ends Moves (λ r. r ≡ 9) (publish m i (of_net (to_net d)))
      records p d e =
          let f : tick_of d.hook ≤ most t = subst (λ (x : Hook). tick_of x ≤ most t) (sym e) (h.short i p) in
          let l = hold_most t.hook_hold in
          rw (to_core d (omega (arith, f, l))) (record {
            short = set_every (λ k x. Short t x) m.slots i (with_character (slot_at m.slots i) (from_net (core_of d))) nowhere h.short (λ q. back-short d (most t) f);
            told = set_every (λ k x. TicksWithin (most t) x.core) m.records i (record { present = true; core = core_of d }) unpublished h.told (core_within d (most t) f);
          })

      moves : (slot_at m.slots i).present ≡ true → (o : Result Character Refusal) → Rests (λ d. d.hook ≡ c.hook) o → Ends Moves (λ r. r ≡ 9) (publish m i (record_of o))
      moves p (Err why) e = refl
      moves p (Ok d) e = records p d e

  none_told : (k : ℕ) → TicksWithin (most t) (record_at (replicate n unpublished) k).core
  none_told = replicate_every (λ x. TicksWithin (most t) x.core) n unpublished unpublished none none
    where
      none : TicksWithin (most t) unpublished.core
      none = record { ticks = 0; told = refl; within = omega arith }

  moves_short : (us : List Slot) → ((k : ℕ) → Short t (slot_at us k)) → Ends Moves (λ r. r ≡ 9) (move_all n us s ts t)
  unfolding move_all
  moves_short us h = run-kept (move_turn n s ts t) (λ i. Moves) (λ r. r ≡ 9) move_turn_lem n 0 (moving_from n us) (record { short = h; told = none_told })

-- ---- a step
-- 0, or refused with 9; with 1 where the map is none
pub record Numbers (k : ℕ) : Type 0 where
  pub is : (k ≡ 0) ⊎ ((k ≡ 1) ⊎ (k ≡ 9))

-- what a step answers, and that neither its records nor its world have a longer hold
pub record Answered (t : Tuning) (a : Stepped) : Type 0 where
  pub number : Numbers a.number
  pub told : (j : ℕ) → TicksWithin (most t) (record_at a.records j).core
  pub short : a.number ≡ 0 → (j : ℕ) → Short t (slot_at a.world.slots j)

module _ (n : ℕ) (w : World) (s : Sides) (ts : List ℕ) where
  abbrev t : Tuning
  t = tuning_of w.tunings

  -- a removal leaves an empty slot, and hooks that held who is removed Retracted
  removal_short : (ids : List ℕ) (v : World) → ((j : ℕ) → Short t (slot_at v.slots j)) → (j : ℕ) → Short t (slot_at (remove_all v ids).slots j)
  unfolding spawn tick_of
  removal_short = removed_every (λ j x. Short t x) (λ j q. omega arith) (λ j k x h q. released-kept x.character.hook k (λ g. tick_of g ≤ most t) (omega arith) (λ e. h q))

  answer : (a : Turn Moving ℕ) → Ends (Moves n s ts t) (λ r. r ≡ 9) a → Answered t (step_answer n w s ts a)
  answer (more m) h = record { number = record { is = inl refl }; told = h.told; short = λ e. removal_short (dying n s ts m.slots) _ h.short }
  answer (stop k) h = record { number = record { is = inr (inr h) }; told = none_told n s ts t; short = λ e. absurd (omega (arith, h, e)) }

  module _ (full : length w.slots ≤ n) where
    -- all have ticked: those past the last seat are nobody
    every : (us : List Slot) → Ticks n s ts t n us → (k : ℕ) → Short t (slot_at us k)
    every us h k p = h.1 k (let l = present_within us k p in omega (arith, h.0)) p

    ticked-answer : (a : Turn (List Slot) ℕ) → Ends (Ticks n s ts t n) (λ r. r ≡ 9) a → Answered t (step_answer n w s ts (next (λ us. move_all n us s ts t) a))
    ticked-answer (more us) h = answer (move_all n us s ts t) (moves_short n s ts t us (every us h))
    ticked-answer (stop k) h = answer (stop k) h

    pub step-answer : Answered t (step n w s ts)
    unfolding step step_on
    step-answer = by_test (Answered t) (is_map s ts) (λ m. ticked-answer (tick_all n w.slots s ts t) (ticks_short n s ts t w.slots full)) (λ m. record { number = record { is = inr (inl refl) }; told = none_told n s ts t; short = λ e. absurd (omega arith) })

    pub step_number : Numbers (step n w s ts).number
    step_number = step-answer.number
