-- What an accepted step records: whoever is there becomes what its record reads as, with the input that it had, and that record is the record of it. Assumes nothing.
use Prim.Native.Nat.{ℕ, zero, suc, ◌+◌, ◌^◌, ◌≤◌, ◌<◌}
use native.Mathlib.Omega.{arith}
use mathlib.Core.Bool.{Bool, true, false, true≢false}
use mathlib.Core.List.{List, [], ◌∷◌}
use mathlib.Core.Logic.{⊎_elim}
use mathlib.Core.Path.{◌≡◌, refl, sym, ap, ◌∙◌, subst}
use lib.Dec.{ltb}
use lib.Ieee.{binary32}
use lib.Ieee.Bits.{of_bits-fits}
use lib.Ieee.Fits.{nan-fits}
use lib.ListN.{length, set, length-set, length-replicate}
use lib.Seq.{get_or-set_same}
use borrow.Author.Tests.{ltb-true, ltb-false}
use Rattle.base_turns.specs.Turns.{Turn, more, stop, next, run}
use Rattle.base_turns.proofs.Kept.{Ends, run-kept}
use Rattle.num_convert.specs.Convert.{i32_to_f32}
use Rattle.map_tiles.specs.Map.{is_map}
use Rattle.map_tiles.specs.declared.tiles.Sides.{Sides}
use Rattle.game_tuning.specs.Tuning.{tuning_of}
use Rattle.game_tuning.specs.declared.Tuning.{Tuning}
use Rattle.game_records.specs.declared.CharacterCore.{CharacterCore}
use Rattle.num_vec2.specs.declared.vec2.{vec2}
use Rattle.character_hook.specs.declared.hook.Hook.{Hook}
use Rattle.character_hook.specs.declared.hook.Hook.TheVariants.{Retracted, Idle, Flying, Grabbed, Attached, Retracting0, Retracting1, Retracting2}
use Rattle.character.specs.Character.{spawn}
use Rattle.character.specs.Slot.{empty_slot, with_character}
use Rattle.character.specs.Tick.{slot_at, nowhere, after_pull, tick_at, ticked_slot}
use Rattle.character.specs.Records.{core_of, to_net, from_net}
use Rattle.character.specs.declared.Character.{Character}
use Rattle.character.specs.declared.Slot.{Slot}
use Rattle.character_laws.specs.Representable.{Pair, RepresentableHook, Representable}
use Rattle.character_laws.proofs.Again.{Small, net_again}
use Rattle.character_laws.proofs.FitsHook.{FitsPlace, tick_place}
use Rattle.num_order.proofs.Vectors.{FitsPair}
use Rattle.character_laws.proofs.FitsWalk.{move_place}
use Rattle.character_laws.proofs.Held.{Only, tick-only, Rests, move_hook}
use Rattle.character_laws.proofs.Others.{Then, pulled_others, pulled-length}
use Rattle.character_laws.proofs.Slots.{set_every, set_others}
use Rattle.world.specs.Demand3.{record_at}
use Rattle.world.specs.Removal.{dying, remove_all, listed, is_in}
use Rattle.world.specs.Settled.{Settled}
use Rattle.world.specs.Step.{Moving, unpublished, after_tick, tick_turn, tick_all, of_net, record_of, publish, move_in, move_turn, moving_from, move_all, step_answer, step_on, step}
use Rattle.world.specs.Answered.{Stepped}
use Rattle.world.specs.declared.World.{World}
use Rattle.world.proofs.Removal.{dying_within}
use Rattle.character_laws.proofs.Back.{record_of_lem}
use Rattle.world.proofs.Seats.{last_or_below, present_within, by_test, Same, same_on, ticks_same, Settling, moves-settle}
use Rattle.world.proofs.Standing.{i32_fits, pair_fits}
use Rattle.std.specs.Prelude.{Result, Ok, Err}
use Rattle.character.specs.declared.tick.AfterTick.{AfterTick}
use Rattle.game_refusals.specs.declared.Refusal.{Refusal}
use Rattle.game_refusals.specs.declared.Refusal.TheVariants.{TooFar}

-- ---- what can be recorded: the character's place and its hook's are f32 values, and whom it holds doesn't read as nobody
record Ready (c : Character) : Type 0 where
  place : FitsPair c.pos
  hook : FitsPlace c.hook
  held : Only Small c.hook

place_fits : (p : vec2) → Pair i32_to_f32 p → FitsPair p
place_fits = pair_fits i32_to_f32 i32_fits

hook_ready : (h : Hook) → RepresentableHook h → FitsPlace h × Only Small h
hook_ready Retracted w = (tt, tt)
hook_ready Idle w = (tt, tt)
hook_ready (Flying p d) w = (place_fits p w.0, tt)
hook_ready (Grabbed c t) w = (tt, w.0)
hook_ready (Attached p) w = (place_fits p w, tt)
hook_ready (Retracting0 p) w = (place_fits p w, tt)
hook_ready (Retracting1 p) w = (place_fits p w, tt)
hook_ready (Retracting2 p) w = (place_fits p w, tt)

representable_ready : (c : Character) → Representable c → Ready c
representable_ready c r = let h = hook_ready c.hook r.hook in record { place = place_fits c.pos r.pos; hook = h.0; held = h.1 }

empty_ready : Ready empty_slot.character
unfolding spawn
empty_ready = record { place = (of_bits-fits binary32 0, of_bits-fits binary32 0); hook = tt; held = tt }

nowhere_ready : Ready nowhere.character
nowhere_ready = record { place = (nan-fits binary32, nan-fits binary32); hook = tt; held = tt }

settled_ready : (n : ℕ) (w : World) → Settled n w → (k : ℕ) → Ready (slot_at w.slots k).character
settled_ready n w h k = within (ltb k n) refl
  where
    there : k < n → (b : Bool) → (slot_at w.slots k).present ≡ b → Ready (slot_at w.slots k).character
    there l true e = representable_ready _ (h.representable k l e)
    there l false e = subst (λ (x : Slot). Ready x.character) (sym (h.empty k l e)) empty_ready

    past : (ss : List Slot) (j : ℕ) → length ss ≤ j → Ready (slot_at ss j).character
    past [] j l = nowhere_ready
    past (x ∷ ss) zero l = absurd (omega arith)
    past (x ∷ ss) (suc j) l = past ss j (omega arith)

    within : (b : Bool) → ltb k n ≡ b → Ready (slot_at w.slots k).character
    within true e = there (ltb-true k n e) (slot_at w.slots k).present refl
    within false e = past w.slots k (let g : n ≤ k = ltb-false k n e in omega (arith, h.seats))

-- ---- a record that was taken of what a move left, which y now is
pub record Taken (core : CharacterCore) (y : Slot) : Type 0 where
  pub made : Character
  pub is : core ≡ core_of made
  pub read : y.character ≡ from_net core
  pub again : to_net (from_net core) ≡ Ok core

module _ (n : ℕ) (s : Sides) (ts : List ℕ) (t : Tuning) where
  -- ---- ticks
  module _ (ss : List Slot) (few : length ss < 2 ^ 32) where
    record Ticked (us : List Slot) : Type 0 where
      size : length us ≡ length ss
      input : (k : ℕ) → (slot_at us k).input ≡ (slot_at ss k).input
      ready : (k : ℕ) → Ready (slot_at us k).character

    tick_turn_lem : (j : ℕ) (us : List Slot) → Ticked us → Ends Ticked (λ r. Unit {0}) (tick_turn n s ts t j us)
    tick_turn_lem j us h = let x = slot_at us j in by_test (Ends Ticked (λ r. Unit {0})) x.present (λ p. ticks (tick_at n x.character j us s ts x.input t) (tick_place n x.character j us s ts x.input t (h.ready j).place (h.ready j).hook) (tick-only Small us small n x.character j s ts x.input t (h.ready j).held)) (λ p. h)
      where
        small : (k : ℕ) → (slot_at us k).present ≡ true → Small k
        small k p = let l = present_within us k p in omega (arith, h.size)

        ticks : (k : Result AfterTick Refusal) → Then (λ a. FitsPair a.me.pos × FitsPlace a.me.hook) k → Then (λ a. Only Small a.me.hook) k → Ends Ticked (λ r. Unit {0}) (after_tick us j k)
        ticks (Err e) q o = tt
        ticks (Ok a) q o =
            let vs = after_pull us a.pull in
            let same = pulled_others us a.pull in
            let input : (k : ℕ) → (slot_at vs k).input ≡ (slot_at ss k).input = λ k. ap (λ (x : Slot). x.input) (same k) ∙ h.input k in
            let ready : (k : ℕ) → Ready (slot_at vs k).character = λ k. subst (λ (x : Slot). Ready x.character) (sym (same k)) (record { place = (h.ready k).place; hook = (h.ready k).hook; held = (h.ready k).held }) in
            record {
              size = length-set vs j _ ∙ pulled-length us a.pull ∙ h.size;
              input = set_every (λ k x. x.input ≡ (slot_at ss k).input) vs j (ticked_slot (slot_at vs j) a) nowhere input (input j);
              ready = set_every (λ k x. Ready x.character) vs j (ticked_slot (slot_at vs j) a) nowhere ready (record { place = q.0; hook = q.1; held = o });
            }

    ticks-ready : ((k : ℕ) → Ready (slot_at ss k).character) → Ends Ticked (λ r. Unit {0}) (tick_all n ss s ts t)
    unfolding tick_all
    ticks-ready r = run-kept (tick_turn n s ts t) (λ i. Ticked) (λ r. Unit {0}) tick_turn_lem n 0 ss (record { size = refl; input = λ k. refl; ready = r })

  -- ---- moves
  module _ (ss : List Slot) where
    record Moved (i : ℕ) (m : Moving) : Type 0 where
      size : length m.records ≡ n
      input : (k : ℕ) → (slot_at m.slots k).input ≡ (slot_at ss k).input
      waits : (k : ℕ) → i ≤ k → Ready (slot_at m.slots k).character
      taken : (k : ℕ) → k < i → (slot_at m.slots k).present ≡ true → Taken (record_at m.records k).core (slot_at m.slots k)

    module _ (i : ℕ) (m : Moving) (l : i < n) (h : Moved i m) where
      abbrev me : Slot
      me = slot_at m.slots i

      nobody : me.present ≡ false → Moved (suc i) m
      nobody p = record {
        size = h.size;
        input = h.input;
        waits = λ k q. h.waits k (omega arith);
        taken = λ k q. ⊎_elim (λ e r. absurd (true≢false (sym r ∙ ap (λ (j : ℕ). (slot_at m.slots j).present) e ∙ p))) (h.taken k) (last_or_below k i q);
      }

      named : me.present ≡ true → (c : Character) (o : Result CharacterCore Refusal) → to_net c ≡ o → FitsPair c.pos → c.hook ≡ me.character.hook → Ends (Moved (suc i)) (λ r. Unit {0}) (publish m i (of_net o))
      named p c (Err why) e f g = tt
      named p c (Ok core) e f g =
          let q = record_of_lem c core e in
          let r = h.waits i (omega arith) in
          let x = with_character me (from_net core) in
          let new : Taken core x = record { made = c; is = q.0; read = refl; again = net_again c core f (subst FitsPlace (sym g) r.hook) (subst (Only Small) (sym g) r.held) q.1 q.0 } in
          let a = present_within m.slots i p in
          let b : i < length m.records = omega (arith, h.size) in
          let record_is = get_or-set_same m.records i (record { present = true; core = core }) unpublished b in
          record {
            size = length-set m.records i _ ∙ h.size;
            input = set_every (λ k y. y.input ≡ (slot_at ss k).input) m.slots i x nowhere h.input (h.input i);
            waits = set_others (λ k y. suc i ≤ k → Ready y.character) m.slots i x nowhere a (λ k d z. h.waits k (omega arith)) (λ z. absurd (omega arith));
            taken = λ k z. others k z core x a b new;
          }
        where
          others : (k : ℕ) → k < suc i → (core : CharacterCore) (x : Slot) → i < length m.slots → i < length m.records → Taken core x → (slot_at (set m.slots i x) k).present ≡ true → Taken (record_at (set m.records i (record { present = true; core = core })) k).core (slot_at (set m.slots i x) k)
          others k z core x a b new = set_others (λ j p. j < suc i → (slot_at (set m.slots i x) j).present ≡ true → Taken p.core (slot_at (set m.slots i x) j)) m.records i (record { present = true; core = core }) unpublished b (λ j d y. set_others (λ v u. (v ≡ i → ⊥) → v < suc i → u.present ≡ true → Taken (record_at m.records v).core u) m.slots i x nowhere a (λ v e g w. h.taken v (omega (arith, e))) (λ e. absurd (e refl)) j d y) (λ y r. subst (Taken core) (sym (get_or-set_same m.slots i x nowhere a)) new) k z

      recorded : me.present ≡ true → (d : Result Character Refusal) → Rests (λ d. FitsPair d.pos) d → Rests (λ d. d.hook ≡ me.character.hook) d → Ends (Moved (suc i)) (λ r. Unit {0}) (publish m i (record_of d))
      unfolding record_of
      recorded p (Err e) f g = tt
      recorded p (Ok c) f g = named p c (to_net c) refl f g

      move_turn_lem : Ends (Moved (suc i)) (λ r. Unit {0}) (move_turn n s ts t i m)
      move_turn_lem = by_test (Ends (Moved (suc i)) (λ r. Unit {0})) me.present (λ p. recorded p (move_in n s ts t m.slots i) (move_place n me.character i m.slots s ts t (h.waits i (omega arith)).place) (move_hook n me.character i m.slots s ts t)) nobody

    abbrev Upto : ℕ → Moving → Type 0
    Upto i m = i ≤ n → Moved i m

    turn-upto : (i : ℕ) (m : Moving) → Upto i m → Ends (Upto (suc i)) (λ r. Unit {0}) (move_turn n s ts t i m)
    turn-upto i m h = go (ltb i n) refl
      where
        later : (a : Turn Moving ℕ) → Ends (Moved (suc i)) (λ r. Unit {0}) a → Ends (Upto (suc i)) (λ r. Unit {0}) a
        later (more m') k = λ l. k
        later (stop r) k = tt

        never : n ≤ i → (a : Turn Moving ℕ) → Ends (Upto (suc i)) (λ r. Unit {0}) a
        never l (more m') = λ g. absurd (omega arith)
        never l (stop r) = tt

        go : (b : Bool) → ltb i n ≡ b → Ends (Upto (suc i)) (λ r. Unit {0}) (move_turn n s ts t i m)
        go true e = let l = ltb-true i n e in later (move_turn n s ts t i m) (move_turn_lem i m l (h (omega arith)))
        go false e = never (ltb-false i n e) (move_turn n s ts t i m)

    moves-recorded : ((k : ℕ) → Ready (slot_at ss k).character) → Ends (Moved n) (λ r. Unit {0}) (move_all n ss s ts t)
    unfolding move_all
    moves-recorded r = all (run (move_turn n s ts t) n 0 (moving_from n ss)) (run-kept (move_turn n s ts t) Upto (λ r. Unit {0}) turn-upto n 0 (moving_from n ss) (λ l. record { size = length-replicate n unpublished; input = λ k. refl; waits = λ k q. r k; taken = λ k q. absurd (omega arith) }))
      where
        all : (a : Turn Moving ℕ) → Ends (Upto (n + 0)) (λ r. Unit {0}) a → Ends (Moved n) (λ r. Unit {0}) a
        all (more m) f = subst (λ (j : ℕ). Moved j m) (omega arith) (f (omega arith))
        all (stop k) f = tt

-- ---- an accepted step a of w
pub record Recorded (n : ℕ) (w : World) (a : Stepped) : Type 0 where
  pub slots : List Slot
  pub ids : List ℕ
  pub world : a.world ≡ remove_all (record { slots = slots; tunings = w.tunings }) ids
  pub removed : a.removed ≡ listed n ids
  pub within : (k : ℕ) → is_in k ids ≡ true → k < n
  pub same : Same w.slots slots
  pub input : (k : ℕ) → (slot_at slots k).input ≡ (slot_at w.slots k).input
  pub taken : (k : ℕ) → k < n → (slot_at slots k).present ≡ true → Taken (record_at a.records k).core (slot_at slots k)

module _ (n : ℕ) (s : Sides) (ts : List ℕ) (w : World) (h : Settled n w) (few : n < 2 ^ 32) where
  abbrev t : Tuning
  t = tuning_of w.tunings

  moved_recorded : (us : List Slot) → Same w.slots us → ((k : ℕ) → (slot_at us k).input ≡ (slot_at w.slots k).input) → (a : Turn Moving ℕ) → Ends (Settling n s ts t us n) (λ r. 0 < r) a → Ends (Moved n s ts t us n) (λ r. Unit {0}) a → (step_answer n w s ts a).number ≡ 0 → Recorded n w (step_answer n w s ts a)
  moved_recorded us d i (stop k) l f e = absurd (omega arith)
  moved_recorded us d i (more m) l f e = record {
    slots = m.slots;
    ids = dying n s ts m.slots;
    world = refl;
    removed = refl;
    within = dying_within n s ts m.slots;
    same = same_on w.slots us m.slots d l.same;
    input = λ k. f.input k ∙ i k;
    taken = f.taken;
  }

  ticked_recorded : (a : Turn (List Slot) ℕ) → Ends (Same w.slots) (λ r. 0 < r) a → Ends (Ticked n s ts t w.slots (omega (arith, h.seats))) (λ r. Unit {0}) a → (step_answer n w s ts (next (λ us. move_all n us s ts t) a)).number ≡ 0 → Recorded n w (step_answer n w s ts (next (λ us. move_all n us s ts t) a))
  ticked_recorded (stop k) l f e = absurd (omega arith)
  ticked_recorded (more us) d f e = moved_recorded us d f.input (move_all n us s ts t) (moves-settle n s ts t us) (moves-recorded n s ts t us f.ready) e

  pub step_recorded : (step n w s ts).number ≡ 0 → Recorded n w (step n w s ts)
  unfolding step step_on
  step_recorded = by_test (λ (a : Stepped). a.number ≡ 0 → Recorded n w a) (is_map s ts) (λ m. ticked_recorded (tick_all n w.slots s ts t) (ticks_same n s ts t w.slots) (ticks-ready n s ts t w.slots _ (settled_ready n w h))) (λ m e. absurd (omega arith))
