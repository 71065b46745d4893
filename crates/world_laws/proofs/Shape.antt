-- The range of each number of a record that a step takes, a reader tells or a sender sends. Assumes nothing.
use Prim.Native.Nat.{ℕ, ◌+◌, ◌^◌, ◌≤◌, ◌<◌}
use native.Mathlib.Omega.{arith}
use mathlib.Core.Bool.{Bool, true, false, cond}
use mathlib.Core.List.{List, [], ◌∷◌, ◌++◌}
use mathlib.Core.Logic.{◌⊎◌, inl, inr, ⊎_elim}
use mathlib.Core.Path.{◌≡◌, refl, sym, ap, ◌∙◌, subst}
use denote.Floats.{passes}
use lib.Dec.{eqb, leb}
use lib.Ieee.{span, climb, size, odd, units, round, mul, of_fields, of_bits}
use lib.IntN.{ℤ, pos, negsuc, nat_abs}
use lib.ListN.{length, length-set}
use lib.Signed.{le_z_yes}
use borrow.Author.Tests.{le-leb, lt-ltb, eq-eqb, eqb-true, eqb-false}
use Rattle.base_turns.proofs.Kept.{Ends, run-kept}
use Rattle.base_turns.proofs.Tests.{both}
use Rattle.num_convert.specs.Casts.{cast_signed}
use Rattle.num_convert.specs.Convert.{to256ths}
use Rattle.num_convert.specs.Whole.{whole_of, round_to_i32}
use Rattle.game_input.specs.Direction.{as_int}
use Rattle.game_input.specs.declared.direction.MoveDirection.{MoveDirection}
use Rattle.game_input.specs.declared.direction.MoveDirection.TheVariants.{Left, None, Right}
use Rattle.game_records.specs.declared.CharacterCore.{CharacterCore}
use Rattle.game_records.specs.declared.PlayerInput.{PlayerInput}
use Rattle.game_tuning.specs.Tuning.{tuning_of}
use Rattle.game_tuning.specs.declared.Tuning.{Tuning}
use Rattle.map_tiles.specs.declared.tiles.Sides.{Sides}
use Rattle.character_hook.specs.Hook.{net_state, net_pos, net_dir, tick_of, net_hooked_player, holds}
use Rattle.character_hook.specs.declared.hook.Hook.{Hook}
use Rattle.character_hook.specs.declared.hook.Hook.TheVariants.{Retracted, Idle, Flying, Grabbed, Attached, Retracting0, Retracting1, Retracting2}
use Rattle.character.specs.Records.{net_jumped, core_of}
use Rattle.character.specs.Tick.{slot_at, nowhere, after_pull, tick_at, ticked_slot}
use Rattle.character.specs.declared.Character.{Character}
use Rattle.character.specs.declared.Slot.{Slot}
use Rattle.character_laws.proofs.Back.{record_of_lem}
use Rattle.character_laws.proofs.Held.{Only, tick-only}
use Rattle.character_laws.proofs.Others.{Then, pulled_others, pulled-length}
use Rattle.character_laws.proofs.Slots.{set_every}
use Rattle.world.specs.Calls.{place_of}
use Rattle.world.specs.Demand3.{record_at}
use Rattle.world.specs.Hold.{hold_in, TicksWithin}
use Rattle.world.specs.Readers.{read_of}
use Rattle.world.specs.Run.{ran, after}
use Rattle.world.specs.Step.{after_tick, tick_turn, tick_all, step}
use Rattle.world.specs.World.{fresh}
use Rattle.world.specs.declared.Published.{Published}
use Rattle.world.specs.declared.World.{World}
use Rattle.world.specs.declared.call.Call.{Call}
use Rattle.world.specs.declared.call.Call.TheVariants.{Join, Leave, Input, Step, Tune}
use Rattle.world.specs.declared.reading.Query.TheVariants as query
use Rattle.world.specs.ReadAnswer as reading
use Rattle.world.proofs.Held.{held-present}
use Rattle.world.proofs.Hold.{hook_hold_is}
use Rattle.world.proofs.Present.{present_follows}
use Rattle.world.proofs.Readings.{record_read}
use Rattle.world.proofs.Seats.{by_test, present_within}
use Rattle.world.proofs.Settled.{after_settled}
use Rattle.send_rule.specs.Along.{Passes}
use Rattle.send_rule.specs.Send.{taken_at, due}
use Rattle.send_rule.specs.Link.{Link, fresh_link, sent_on, called, EveryCall, messages}
use Rattle.send_rule.specs.declared.Passed.{Passed}
use Rattle.send_rule.specs.declared.Passed.TheVariants as passed
use Rattle.send_rule.proofs.Along.{step-messages, call_along}
use Rattle.send_rule.proofs.Linked.{Linked, linked_first, linked_next}
use Rattle.send_rule.proofs.Messages.{its_copy, has_message, message_of}
use Rattle.world_laws.specs.Records.{Within, Shape, MessageShaped, RecordShapes}
use Rattle.world_laws.proofs.Left.{step-taken}
use Rattle.std.specs.Prelude.{Result, Ok, Err}
use Rattle.character.specs.declared.tick.AfterTick.{AfterTick}
use Rattle.game_refusals.specs.declared.Refusal.{Refusal}

-- ---- whole numbers
between : (k m : ℕ) → k ≤ m → Within (pos 0) (pos m) (pos k)
between k m l = (le_z_yes (passes (leb 0 k) (le-leb 0 k (omega arith))), le_z_yes (passes (leb k m) (le-leb k m l)))

from_below : (k m : ℕ) → k ≤ m → Within (negsuc 0) (pos m) (pos k)
from_below k m l = (le_z_yes tt, (between k m l).1)

lowest : (m : ℕ) → Within (negsuc 0) (pos m) (negsuc 0)
lowest m = (le_z_yes tt, le_z_yes tt)

unlike : {P : Type 0} (a b : ℕ) → pos a ≡ pos b → (a ≡ b → ⊥) → P
unlike a b e d = absurd (d (ap nat_abs e))

below_zero : {P : Type 0} (a b : ℕ) → pos a ≡ negsuc b → P
below_zero a b e = let z : ◌≡◌ {A = ℕ} 0 1 = cc in absurd (omega arith)

-- ---- direction and jump
direction_within : (d : MoveDirection) → Within (negsuc 0) (pos 1) (as_int d)
unfolding as_int
direction_within Left = lowest 1
direction_within None = from_below 0 1 (omega arith)
direction_within Right = from_below 1 1 (omega arith)

jump_within : (a b : Bool) → Within (pos 0) (pos 3) (pos (cond a 2 0 + cond b 1 0))
jump_within true true = between 3 3 (omega arith)
jump_within true false = between 2 3 (omega arith)
jump_within false true = between 1 3 (omega arith)
jump_within false false = between 0 3 (omega arith)

-- ---- the hook
-- the seven numbers of a hook in a record
record HookShape (n hold : ℕ) (state player tick x y dx dy : ℤ) : Type 0 where
  hook_state : Within (negsuc 0) (pos 5) state
  hook_tick : Within (pos 0) (pos hold) tick
  hooked_player : (player ≡ negsuc 0) ⊎ ((k : ℕ) × (k < n) × (player ≡ pos k) × (state ≡ pos 5))
  unhooked : player ≡ negsuc 0 → tick ≡ pos 0
  placeless : (state ≡ negsuc 0) ⊎ ((state ≡ pos 0) ⊎ (player ≡ negsuc 0 → ⊥)) → (x ≡ pos 0) × (y ≡ pos 0)
  undirected : (state ≡ pos 4 → ⊥) → (dx ≡ pos 0) × (dy ≡ pos 0)

-- nobody is held
free : (n hold : ℕ) (state x y dx dy : ℤ) → Within (negsuc 0) (pos 5) state → ((state ≡ negsuc 0) ⊎ (state ≡ pos 0) → (x ≡ pos 0) × (y ≡ pos 0)) → ((state ≡ pos 4 → ⊥) → (dx ≡ pos 0) × (dy ≡ pos 0)) → HookShape n hold state (negsuc 0) (pos 0) x y dx dy
free n hold state x y dx dy l p d = record {
  hook_state = l;
  hook_tick = between 0 hold (omega arith);
  hooked_player = inl refl;
  unhooked = λ e. refl;
  placeless = λ q. ⊎_elim (λ e. p (inl e)) (λ r. ⊎_elim (λ e. p (inr e)) (λ f. absurd (f refl)) r) q;
  undirected = d;
}

-- a hook with a place, which is neither Retracted nor Idle
placed : (k : ℕ) {P : Type 0} → 0 < k → (pos k ≡ negsuc 0) ⊎ (pos k ≡ pos 0) → P
placed k l q = ⊎_elim (λ e. below_zero k 0 e) (λ e. unlike k 0 e (λ z. omega (arith, z))) q

module _ (n hold : ℕ) (few : n ≤ 2 ^ 31) where
  hook_shape : (h : Hook) → Only (λ k. k < n) h → tick_of h ≤ hold → HookShape n hold (net_state h) (net_hooked_player h) (pos (tick_of h)) (round_to_i32 (net_pos h).x) (round_to_i32 (net_pos h).y) (to256ths (net_dir h).x) (to256ths (net_dir h).y)
  unfolding net_state net_hooked_player tick_of net_pos net_dir to256ths cast_signed whole_of span climb size odd units round mul of_fields of_bits
  hook_shape Retracted o l = free n hold (negsuc 0) (pos 0) (pos 0) (pos 0) (pos 0) (lowest 5) (λ q. (refl, refl)) (λ q. (refl, refl))
  hook_shape Idle o l = free n hold (pos 0) (pos 0) (pos 0) (pos 0) (pos 0) (from_below 0 5 (omega arith)) (λ q. (refl, refl)) (λ q. (refl, refl))
  hook_shape (Flying p d) o l = free n hold (pos 4) _ _ _ _ (from_below 4 5 (omega arith)) (placed 4 (omega arith)) (λ q. absurd (q refl))
  hook_shape (Attached p) o l = free n hold (pos 5) _ _ _ _ (from_below 5 5 (omega arith)) (placed 5 (omega arith)) (λ q. (refl, refl))
  hook_shape (Retracting0 p) o l = free n hold (pos 1) _ _ _ _ (from_below 1 5 (omega arith)) (placed 1 (omega arith)) (λ q. (refl, refl))
  hook_shape (Retracting1 p) o l = free n hold (pos 2) _ _ _ _ (from_below 2 5 (omega arith)) (placed 2 (omega arith)) (λ q. (refl, refl))
  hook_shape (Retracting2 p) o l = free n hold (pos 3) _ _ _ _ (from_below 3 5 (omega arith)) (placed 3 (omega arith)) (λ q. (refl, refl))
  hook_shape (Grabbed c t) o l = rw (lt-ltb c.0 (2 ^ 31) (omega (arith, o))) (record {
    hook_state = from_below 5 5 (omega arith);
    hook_tick = between t hold l;
    hooked_player = inr (c.0, o, refl, refl);
    unhooked = λ e. below_zero c.0 0 e;
    placeless = λ q. (refl, refl);
    undirected = λ q. (refl, refl);
  })

  pub shape_of : (c : Character) → Only (λ k. k < n) c.hook → tick_of c.hook ≤ hold → Shape n hold (core_of c)
  unfolding core_of net_jumped
  shape_of c o l =
      let h = hook_shape c.hook o l in
      record {
        tick = refl;
        direction = direction_within c.move_direction;
        jumped = jump_within c.used_airjump c.jumped_already;
        hook_state = h.hook_state;
        hook_tick = h.hook_tick;
        hooked_player = h.hooked_player;
        unhooked = h.unhooked;
        placeless = h.placeless;
        undirected = h.undirected;
      }

-- ---- whom hooks hold
held_only : (P : ℕ → Type 0) (h : Hook) → ((k : ℕ) → holds h k ≡ true → P k) → Only P h
unfolding holds
held_only P Retracted f = tt
held_only P Idle f = tt
held_only P (Flying p d) f = tt
held_only P (Grabbed c t) f = f c.0 (eq-eqb c.0 c.0 refl)
held_only P (Attached p) f = tt
held_only P (Retracting0 p) f = tt
held_only P (Retracting1 p) f = tt
held_only P (Retracting2 p) f = tt

module _ (n : ℕ) (s : Sides) (ts : List ℕ) where
  -- every hook holds a seat or nobody
  abbrev Seated : List Slot → Type 0
  Seated us = (length us ≡ n) × ((k : ℕ) → Only (λ i. i < n) (slot_at us k).character.hook)

  reached-seated : (cs : List Call) → Seated (after n s ts (fresh n) cs).slots
  reached-seated cs =
      let w = after n s ts (fresh n) cs in
      let size : length w.slots ≡ n = (after_settled n s ts cs).seats in
      (size, λ j. held_only _ (slot_at w.slots j).character.hook (λ k e. let l = present_within w.slots k (present_follows n s ts cs k ∙ held-present n s ts cs j k e) in omega (arith, l, size)))

  tick-seated : (t : Tuning) (i : ℕ) (us : List Slot) → Seated us → Ends Seated (λ r. Unit {0}) (tick_turn n s ts t i us)
  tick-seated t i us h = let x = slot_at us i in by_test (Ends Seated (λ r. Unit {0})) x.present (λ p. ticks (tick_at n x.character i us s ts x.input t) (tick-only (λ k. k < n) us (λ k q. let l = present_within us k q in omega (arith, l, h.0)) n x.character i s ts x.input t (h.1 i))) (λ p. h)
    where
      ticks : (r : Result AfterTick Refusal) → Then (λ a. Only (λ k. k < n) a.me.hook) r → Ends Seated (λ q. Unit {0}) (after_tick us i r)
      ticks (Err e) o = tt
      ticks (Ok a) o =
          let vs = after_pull us a.pull in
          let kept : (k : ℕ) → Only (λ j. j < n) (slot_at vs k).character.hook = λ k. subst (λ (x : Slot). Only (λ j. j < n) x.character.hook) (sym (pulled_others us a.pull k)) (h.1 k) in
          (length-set vs i (ticked_slot (slot_at vs i) a) ∙ pulled-length us a.pull ∙ h.0, set_every (λ k x. Only (λ j. j < n) x.character.hook) vs i (ticked_slot (slot_at vs i) a) nowhere kept o)

  ticks_seated : (t : Tuning) (us : List Slot) → Seated us → Ends Seated (λ r. Unit {0}) (tick_all n us s ts t)
  unfolding tick_all
  ticks_seated t us h = run-kept (tick_turn n s ts t) (λ i. Seated) (λ r. Unit {0}) (tick-seated t) n 0 us h

  -- ---- the records of a step
  ticks_told : (c : Character) (m : ℕ) → TicksWithin m (core_of c) → tick_of c.hook ≤ m
  unfolding core_of
  ticks_told c m h = let e : tick_of c.hook ≡ h.ticks = ap nat_abs h.told in omega (arith, e, h.within)

  step_shape : n ≤ 2 ^ 31 → (w : World) → Seated w.slots → (step n w s ts).number ≡ 0 → (j : ℕ) → j < n → (slot_at w.slots j).present ≡ true → Shape n (hold_in w) (record_at (step n w s ts).records j).core
  step_shape few w h e j l p =
      let r = step-taken n w s ts _ _ (ticks_seated (tuning_of w.tunings) w.slots h) e in
      let q = r.taken j l (r.same.present j ∙ p) in
      let core : (record_at (step n w s ts).records j).core ≡ core_of q.made = ap (λ (x : Published). x.core) q.is in
      let only : Only (λ k. k < n) q.made.hook = subst (λ (c : Character). Only (λ k. k < n) c.hook) (sym q.rest) (r.ticked.1 j) in
      let ticks : tick_of q.made.hook ≤ hold_in w = ticks_told q.made (hold_in w) (subst (TicksWithin (hold_in w)) core ((hook_hold_is n).step_within s ts w (omega (arith, h.0)) j)) in
      rw core (shape_of n (hold_in w) few q.made only ticks)

  read_shape : n ≤ 2 ^ 31 → (cs : List Call) (id : ℤ) (r : CharacterCore) → read_of n (after n s ts (fresh n) cs) (query.Record id) ≡ reading.Record r → Shape n 60 r
  read_shape few cs id r e =
      let w = after n s ts (fresh n) cs in
      let h = record_read n w id r e in
      let c = (slot_at w.slots (place_of n id)).character in
      let is : r ≡ core_of c = (record_of_lem c r h.net).0 in
      let ticks : tick_of c.hook ≤ 60 = ticks_told c 60 (subst (TicksWithin 60) is ((hook_hold_is n).ever_within s ts cs id r e)) in
      rw is (shape_of n 60 few c ((reached-seated cs).1 (place_of n id)) ticks)

  -- ---- messages
  module _ (k : ℕ) (seat : k < n) (l : Link) (h : Linked n s ts l) where
    -- a message of k is of an accepted step, which takes its record
    record Sends (r : CharacterCore) : Type 0 where
      accepted : (step n l.world s ts).number ≡ 0
      present : (slot_at l.world.slots k).present ≡ true
      core : r ≡ (record_at (step n l.world s ts).records k).core

    none : {P : Type 0} (p : Passed) (ps : List Passed) → ps ≡ [] → ps ≡ p ∷ [] → P
    none p ps e q = let z : ◌≡◌ {A = ℕ} 0 1 = cc in absurd (omega arith)

    accepted-sends : (r : CharacterCore) (i : PlayerInput) → (step n l.world s ts).number ≡ 0 → messages k (sent_on n s ts l Step).passed ≡ passed.Message k r i ∷ [] → Sends r
    accepted-sends r i e m = go (has_message n s ts l.world (step n l.world s ts) l.copies k) refl (sym (step-messages n s ts l h e k seat) ∙ m)
      where
        go : (b : Bool) → has_message n s ts l.world (step n l.world s ts) l.copies k ≡ b → cond b (message_of l.world (step n l.world s ts) k ∷ []) [] ≡ passed.Message k r i ∷ [] → Sends r
        go true q z = let a = step n l.world s ts in record { accepted = e; present = (both (slot_at l.world.slots k).present (due (its_copy n s ts l.world a l.copies k) (taken_at a k)) q).0; core = cc }
        go false q z = none (passed.Message k r i) [] refl z

    call-sends : (c : Call) (r : CharacterCore) (i : PlayerInput) → messages k (sent_on n s ts l c).passed ≡ passed.Message k r i ∷ [] → Sends r
    call-sends c r i m = go (eqb (ran n s ts l.world c).number 0) refl
      where
        along : (d : Call) (ps : List Passed) → Passes n (ran n s ts l.world d) ps d → (ps ≡ (sent_on n s ts l d).passed) → messages k ps ≡ passed.Message k r i ∷ [] → (ran n s ts l.world d).number ≡ 0 → Sends r
        along (Join id x y) ps a q z e = none (passed.Message k r i) (messages k ps) (ap (messages k) a) z
        along (Leave id) ps a q z e = none (passed.Message k r i) (messages k ps) (ap (messages k) a) z
        along (Input id d x y j g) ps a q z e = none (passed.Message k r i) (messages k ps) (ap (messages k) a) z
        along (Tune index v) ps a q z e = none (passed.Message k r i) (messages k ps) (ap (messages k) a) z
        along Step ps a q z e = accepted-sends r i e (ap (messages k) (sym q) ∙ z)

        go : (b : Bool) → eqb (ran n s ts l.world c).number 0 ≡ b → Sends r
        go true e = let a = eqb-true _ 0 e in along c (sent_on n s ts l c).passed ((call_along n s ts l h c).accepted a) refl m a
        go false e = none (passed.Message k r i) (messages k (sent_on n s ts l c).passed) (ap (messages k) ((call_along n s ts l h c).refused (eqb-false _ 0 e))) m

  module _ (few : n ≤ 2 ^ 31) (k : ℕ) (seat : k < n) where
    after_one : (cs : List Call) (w : World) (c : Call) → (ran n s ts (after n s ts w cs) c).world ≡ after n s ts w (cs ++ (c ∷ []))
    after_one [] w c = refl
    after_one (d ∷ cs) w c = after_one cs (ran n s ts w d).world c

    sent-shapes : (cs before : List Call) (l : Link) → Linked n s ts l → l.world ≡ after n s ts (fresh n) before → EveryCall n s ts (MessageShaped n s ts k) l cs
    sent-shapes [] before l h e = tt
    sent-shapes (c ∷ cs) before l h e = (
      λ r i m. let q = call-sends k seat l h c r i m in rw q.core (step_shape few l.world (subst (λ (w : World). Seated w.slots) (sym e) (reached-seated before)) q.accepted k seat q.present),
      sent-shapes cs (before ++ (c ∷ [])) (called n s ts l c) (linked_next n s ts l c h) (ap (λ (w : World). (ran n s ts w c).world) e ∙ after_one before (fresh n) c),
    )

pub record_shapes : (n : ℕ) → n ≤ 2 ^ 31 → RecordShapes n
record_shapes n few = record {
  step = λ s ts cs j e l p. step_shape n s ts few (after n s ts (fresh n) cs) (reached-seated n s ts cs) e j l p;
  read = λ s ts cs id r. read_shape n s ts few cs id r;
  sent = λ s ts cs k l. sent-shapes n s ts few k l cs [] (fresh_link n) (linked_first n s ts) refl;
}
