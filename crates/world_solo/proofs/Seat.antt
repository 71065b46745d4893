-- With player collision and player hooking both 0, what the ticks and the moves of a step leave of a seat comes of that seat alone. Assumes nothing.
use Prim.Native.Nat.{ℕ, ◌<◌}
use mathlib.Core.Bool.{Bool, true, false, cond}
use mathlib.Core.List.{List, []}
use mathlib.Core.Path.{◌≡◌, refl, sym, ap, ◌∙◌, subst}
use lib.Dec.{leb}
use lib.Ieee.{ne}
use lib.ListN.{length, set, length-set, length-replicate, get_or-replicate}
use lib.Seq.{get_or-set_same, get_or-set_other}
use Rattle.num_convert.specs.Number.{c0}
use Rattle.map_tiles.specs.declared.tiles.Sides.{Sides}
use Rattle.game_records.specs.declared.CharacterCore.{CharacterCore}
use Rattle.game_tuning.specs.declared.Tuning.{Tuning}
use Rattle.character_hook.specs.Hook.{tick_of}
use Rattle.character_meeting.specs.declared.meeting.HookPull.{HookPull}
use Rattle.character.specs.Records.{most_tick, to_net, from_net}
use Rattle.character.specs.Slot.{with_character}
use Rattle.character.specs.Tick.{slot_at, nowhere, after_pull, tick_at, ticked_slot}
use Rattle.character.specs.Walk.{move_at}
use Rattle.character.specs.declared.Slot.{Slot}
use Rattle.character.specs.declared.tick.AfterTick.{AfterTick}
use Rattle.character_laws.proofs.Alone.{tick-alone, tick_pulls_nobody}
use Rattle.character_laws.proofs.Held.{record_only, Rests, move_hook}
use Rattle.character_laws.proofs.Moved.{move-alone}
use Rattle.character_laws.proofs.Others.{Then}
use Rattle.world.specs.Step.{Moving, unpublished, after_tick, tick_turn, tick_all, of_net, record_of, publish, move_in, move_turn, moving_from, move_all}
use Rattle.world.specs.Demand3.{record_at}
use Rattle.world.specs.declared.Published.{Published}
use Rattle.world.proofs.Seats.{by_test, present_within}
use Rattle.world_solo.specs.Solo.{Seen}
use Rattle.world_solo.proofs.Free.{FreeHook, Free, tick_free}
use Rattle.base_turns.proofs.Own.{On, on_map_lem, run_own}
use Rattle.std.specs.Prelude.{Option, None, Result, Ok, Err}
use Rattle.character.specs.declared.Character.{Character}
use Rattle.game_refusals.specs.declared.Refusal.{Refusal}

-- ---- a seat alone

-- the slot x after its tick; as it was where the tick is refused
abbrev ticked_to : Slot → Result AfterTick Refusal → Slot
ticked_to x (Err e) = x
ticked_to x (Ok a) = ticked_slot x a

-- the record and the slot after a move
abbrev moved_to : Seen → Result CharacterCore Refusal → Seen
moved_to y (Err r) = y
moved_to y (Ok core) = record { taken = record { present = true; core = core }; slot = with_character y.slot (from_net core) }

-- what is seen of k so far
abbrev pub seen_at : ℕ → Moving → Seen
seen_at k m = record { taken = record_at m.records k; slot = slot_at m.slots k }

module _ (n : ℕ) (s : Sides) (ts : List ℕ) (t : Tuning) (k : ℕ) where
  -- the slot of the id k after its tick, were nobody else there
  abbrev pub ticked_seat : Slot → Slot
  ticked_seat x = cond x.present (ticked_to x (tick_at n x.character k [] s ts x.input t)) x

  -- the record and the slot after its move
  abbrev pub moved_seat : Seen → Seen
  moved_seat y = cond y.slot.present (moved_to y (record_of (move_at n y.slot.character k [] s ts t))) y

  -- nobody is held then
  pub ticked_free : (x : Slot) → Free x → Free (ticked_seat x)
  ticked_free x f = by_test Free x.present (λ p. go (tick_at n x.character k [] s ts x.input t) (tick_free n x.character k s ts x.input t f)) (λ p. f)
    where
      go : (a : Result AfterTick Refusal) → Then (λ a. FreeHook a.me.hook) a → Free (ticked_to x a)
      go (Err e) h = f
      go (Ok a) h = h

  pub moved_free : (y : Seen) → Free y.slot → Free (moved_seat y).slot
  unfolding record_of to_net
  moved_free y f = by_test (λ (z : Seen). Free z.slot) y.slot.present (λ p. go (move_at n y.slot.character k [] s ts t) (move_hook n y.slot.character k [] s ts t)) (λ p. f)
    where
      go : (d : Result Character Refusal) → Rests (λ d. d.hook ≡ y.slot.character.hook) d → Free (moved_to y (record_of d)).slot
      go (Err e) h = f
      go (Ok c) h = by_test (λ (o : Result CharacterCore Refusal). Free (moved_to y (of_net o)).slot) (leb (tick_of c.hook) most_tick) (λ e. record_only (λ j. ⊥) c (subst FreeHook (sym h) f)) (λ e. f)

module _ (n : ℕ) (s : Sides) (ts : List ℕ) (t : Tuning) (collision : ne t.player_collision c0 ≡ false) (hooking : ne t.player_hooking c0 ≡ false) (k : ℕ) (l : k < n) where
  -- ---- the ticks
  abbrev tick_in : ℕ → List Slot → Result AfterTick Refusal
  tick_in j us = tick_at n (slot_at us j).character j us s ts (slot_at us j).input t

  pulls_nobody : (j : ℕ) (us : List Slot) → Then (λ a. a.pull ≡ None) (tick_in j us)
  pulls_nobody j us = tick_pulls_nobody t collision hooking n (slot_at us j).character j us s ts (slot_at us j).input

  abbrev Same : List Slot → List Slot → Type 0
  Same us vs = Unit {0} × (slot_at vs k ≡ slot_at us k)

  tick_other : (j : ℕ) (us : List Slot) → Unit {0} → (k ≡ j → ⊥) → On (Same us) (tick_turn n s ts t j us)
  unfolding after_pull
  tick_other j us u d = by_test (On (Same us)) (slot_at us j).present (λ p. go (tick_in j us) (pulls_nobody j us)) (λ p. (tt, refl))
    where
      go : (a : Result AfterTick Refusal) → Then (λ a. a.pull ≡ None) a → On (Same us) (after_tick us j a)
      go (Err why) e = tt
      go (Ok a) e = (tt, get_or-set_other (after_pull us a.pull) j k _ nowhere d ∙ ap (λ (p : Option HookPull). slot_at (after_pull us p) k) e)

  abbrev Ticks : List Slot → List Slot → Type 0
  Ticks us vs = Unit {0} × (slot_at vs k ≡ ticked_seat n s ts t k (slot_at us k))

  tick_own : (us : List Slot) → Unit {0} → On (Ticks us) (tick_turn n s ts t k us)
  unfolding after_pull
  tick_own us u = by_test (On (Ticks us)) x.present (λ p. go p (tick_in k us) (pulls_nobody k us) (tick-alone t collision hooking n x.character k us [] s ts x.input)) (λ p. (tt, sym (there p)))
    where
      x : Slot
      x = slot_at us k

      own : Result AfterTick Refusal
      own = tick_at n x.character k [] s ts x.input t

      there : {b : Bool} → x.present ≡ b → ticked_seat n s ts t k x ≡ cond b (ticked_to x own) x
      there p = ap (λ (b : Bool). cond b (ticked_to x own) x) p

      set_own : x.present ≡ true → (a : AfterTick) (q : Option HookPull) → None ≡ q → let vs = after_pull us q in slot_at (set vs k (ticked_slot (slot_at vs k) a)) k ≡ ticked_slot x a
      set_own p a q e = subst (λ (r : Option HookPull). let vs = after_pull us r in slot_at (set vs k (ticked_slot (slot_at vs k) a)) k ≡ ticked_slot x a) e (get_or-set_same us k (ticked_slot x a) nowhere (present_within us k p))

      go : x.present ≡ true → (a : Result AfterTick Refusal) → Then (λ a. a.pull ≡ None) a → a ≡ own → On (Ticks us) (after_tick us k a)
      go p (Err why) e q = tt
      go p (Ok a) e q = (tt, set_own p a a.pull (sym e) ∙ ap (ticked_to x) q ∙ sym (there p))

  pub ticks_seat : (us : List Slot) → On (λ vs. slot_at vs k ≡ ticked_seat n s ts t k (slot_at us k)) (tick_all n us s ts t)
  unfolding tick_all
  ticks_seat us = run_own (tick_turn n s ts t) (λ vs. Unit {0}) (λ vs. slot_at vs k) (ticked_seat n s ts t k) k tick_other tick_own n l us tt

  -- ---- the moves
  move_in_lem : (us : List Slot) → move_in n s ts t us k ≡ move_at n (slot_at us k).character k [] s ts t
  move_in_lem us = move-alone n (slot_at us k).character k us s ts t collision ∙ sym (move-alone n (slot_at us k).character k [] s ts t collision)

  -- there is a place for the record
  abbrev Room : Moving → Type 0
  Room m = k < length m.records

  room : (m : Moving) (j : ℕ) (p : Published) → Room m → k < length (set m.records j p)
  room m j p r = subst (λ (i : ℕ). k < i) (sym (length-set m.records j p)) r

  abbrev SameSeen : Moving → Moving → Type 0
  SameSeen m u = Room u × (seen_at k u ≡ seen_at k m)

  move_other : (j : ℕ) (m : Moving) → Room m → (k ≡ j → ⊥) → On (SameSeen m) (move_turn n s ts t j m)
  move_other j m r d = by_test (On (SameSeen m)) (slot_at m.slots j).present (λ p. put (record_of (move_in n s ts t m.slots j))) (λ p. (r, refl))
    where
      put : (o : Result CharacterCore Refusal) → On (SameSeen m) (publish m j o)
      put (Err q) = tt
      put (Ok core) = (room m j _ r, λ i. record { taken = get_or-set_other m.records j k (record { present = true; core = core }) unpublished d i; slot = get_or-set_other m.slots j k (with_character (slot_at m.slots j) (from_net core)) nowhere d i })

  abbrev MovesSeen : Moving → Moving → Type 0
  MovesSeen m u = Room u × (seen_at k u ≡ moved_seat n s ts t k (seen_at k m))

  move_own : (m : Moving) → Room m → On (MovesSeen m) (move_turn n s ts t k m)
  move_own m r = by_test (On (MovesSeen m)) x.present (λ p. put p (record_of (move_in n s ts t m.slots k)) (ap record_of (move_in_lem m.slots))) (λ p. (r, sym (there p)))
    where
      x : Slot
      x = slot_at m.slots k

      own : Seen
      own = moved_to (seen_at k m) (record_of (move_at n x.character k [] s ts t))

      there : {b : Bool} → x.present ≡ b → moved_seat n s ts t k (seen_at k m) ≡ cond b own (seen_at k m)
      there p = ap (λ (b : Bool). cond b own (seen_at k m)) p

      both : x.present ≡ true → (core : CharacterCore) → seen_at k (record { slots = set m.slots k (with_character x (from_net core)); records = set m.records k (record { present = true; core = core }) }) ≡ moved_to (seen_at k m) (Ok core)
      both p core = λ i. record { taken = get_or-set_same m.records k (record { present = true; core = core }) unpublished r i; slot = get_or-set_same m.slots k (with_character x (from_net core)) nowhere (present_within m.slots k p) i }

      put : x.present ≡ true → (o : Result CharacterCore Refusal) → o ≡ record_of (move_at n x.character k [] s ts t) → On (MovesSeen m) (publish m k o)
      put p (Err q) e = tt
      put p (Ok core) e = (room m k _ r, both p core ∙ ap (moved_to (seen_at k m)) e ∙ sym (there p))

  pub moves_seat : (us : List Slot) → On (λ m. seen_at k m ≡ moved_seat n s ts t k (record { taken = unpublished; slot = slot_at us k })) (move_all n us s ts t)
  unfolding move_all
  moves_seat us = on_map_lem _ _ (move_all n us s ts t) (λ m q. q ∙ ap (λ (p : Published). moved_seat n s ts t k (record { taken = p; slot = slot_at us k })) (get_or-replicate n k unpublished unpublished l))
      (run_own (move_turn n s ts t) Room (seen_at k) (moved_seat n s ts t k) k move_other move_own n l (moving_from n us) (subst (λ (i : ℕ). k < i) (sym (length-replicate n unpublished)) l))
