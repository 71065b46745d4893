-- Whom a hook holds is there, after every list of calls, whatever the map and player collision. Assumes nothing.
use Prim.Native.Nat.{ℕ}
use mathlib.Core.Bool.{Bool, true, false, cond, true≢false}
use mathlib.Core.List.{List, [], ◌∷◌}
use mathlib.Core.Path.{◌≡◌, refl, sym, ap, ◌∙◌, subst}
use lib.Dec.{leb}
use lib.ListN.{set}
use Rattle.base_turns.specs.Turns.{Turn, more, stop, next}
use Rattle.base_turns.proofs.Kept.{Ends, run-kept}
use Rattle.map_tiles.specs.Map.{is_map}
use Rattle.map_tiles.specs.declared.tiles.Sides.{Sides}
use Rattle.game_tuning.specs.Tuning.{tuning_of}
use Rattle.game_tuning.specs.declared.Tuning.{Tuning}
use Rattle.character_hook.specs.Hook.{holds, tick_of}
use Rattle.character_hook.specs.declared.hook.Hook.{Hook}
use Rattle.character.specs.Character.{spawn}
use Rattle.character.specs.Slot.{empty_slot, joined_slot, with_input}
use Rattle.character.specs.Records.{core_of, most_tick, to_net}
use Rattle.character.specs.Tick.{slot_at, nowhere, after_pull, tick_at}
use Rattle.character.specs.declared.Character.{Character}
use Rattle.character.specs.declared.Slot.{Slot}
use Rattle.character.specs.declared.tick.AfterTick.{AfterTick}
use Rattle.character_laws.proofs.Held.{Only, only_holds, holds_only, tick-only, record_only, Rests, move_hook}
use Rattle.character_laws.proofs.Others.{Then, pulled_others}
use Rattle.character_laws.proofs.Slots.{set_every, replicate_every}
use Rattle.world.specs.declared.call.Call.{Call}
use Rattle.world.specs.declared.call.Call.TheVariants.{Join, Leave, Input, Step, Tune}
use Rattle.world.specs.Answered.{Stepped}
use Rattle.world.specs.declared.World.{World}
use Rattle.world.specs.World.{fresh, with_slot}
use Rattle.world.specs.Calls.{place_of, point_of, vacate}
use Rattle.world.specs.Removal.{dying}
use Rattle.world.specs.Step.{Moving, after_tick, tick_turn, tick_all, of_net, record_of, publish, move_in, move_turn, moving_from, move_all, step_answer, step_on, step}
use Rattle.world.specs.Run.{input_of, ran, after}
use Rattle.world.specs.Held.{HeldPresent}
use Rattle.world.proofs.Outcomes.{outcome_kept, join_outcome, leave_outcome, input_outcome, tune_outcome}
use Rattle.world.proofs.Present.{present_follows}
use Rattle.world.proofs.Removal.{removed_kept}
use Rattle.world.proofs.Seats.{by_test}
use Rattle.world.proofs.Vacated.{released_only, vacated_every, vacated_others, nobody-holds}
use Rattle.std.specs.Prelude.{Result, Ok, Err}
use Rattle.game_refusals.specs.declared.Refusal.{Refusal}
use Rattle.game_refusals.specs.declared.Refusal.TheVariants.{TooFar, TickTooLarge}

-- k is there among the slots ss
abbrev There : List Slot → ℕ → Type 0
There ss k = (slot_at ss k).present ≡ true

-- whom the hook of a slot holds is there
abbrev HoldsPresent : List Slot → Slot → Type 0
HoldsPresent ss x = Only (There ss) x.character.hook

-- ---- a step that began with ss
module _ (n : ℕ) (s : Sides) (ts : List ℕ) (t : Tuning) (ss : List Slot) where
  -- the same ones are there, and nobody else is held
  record Holding (us : List Slot) : Type 0 where
    there : (k : ℕ) → (slot_at us k).present ≡ (slot_at ss k).present
    held : (j : ℕ) → HoldsPresent ss (slot_at us j)

  -- a slot whose presence stays
  holding_set : (us : List Slot) (j : ℕ) (x : Slot) → Holding us → x.present ≡ (slot_at us j).present → HoldsPresent ss x → Holding (set us j x)
  holding_set us j x h p k = record {
    there = set_every (λ i y. y.present ≡ (slot_at ss i).present) us j x nowhere h.there (p ∙ h.there j);
    held = set_every (λ i y. HoldsPresent ss y) us j x nowhere h.held k;
  }

  tick_turn_lem : (j : ℕ) (us : List Slot) → Holding us → Ends Holding (λ r. Unit {0}) (tick_turn n s ts t j us)
  tick_turn_lem j us h = let x = slot_at us j in by_test (Ends Holding (λ r. Unit {0})) x.present (λ p. ticks (tick_at n x.character j us s ts x.input t) (tick-only (There ss) us (λ k q. sym (h.there k) ∙ q) n x.character j s ts x.input t (h.held j))) (λ p. h)
    where
      pulled : (a : AfterTick) → Holding (after_pull us a.pull)
      pulled a = let same = pulled_others us a.pull in record {
        there = λ k. ap (λ (y : Slot). y.present) (same k) ∙ h.there k;
        held = λ k. subst (HoldsPresent ss) (sym (same k)) (h.held k);
      }

      ticks : (k : Result AfterTick Refusal) → Then (λ a. Only (There ss) a.me.hook) k → Ends Holding (λ r. Unit {0}) (after_tick us j k)
      ticks (Err e) q = tt
      ticks (Ok a) q = holding_set (after_pull us a.pull) j _ (pulled a) refl q

  ticks_hold : Holding ss → Ends Holding (λ r. Unit {0}) (tick_all n ss s ts t)
  unfolding tick_all
  ticks_hold = run-kept (tick_turn n s ts t) (λ i. Holding) (λ r. Unit {0}) tick_turn_lem n 0 ss

  move_turn_lem : (i : ℕ) (m : Moving) → Holding m.slots → Ends (λ (m : Moving). Holding m.slots) (λ r. Unit {0}) (move_turn n s ts t i m)
  unfolding record_of to_net
  move_turn_lem i m h = by_test (Ends (λ (m : Moving). Holding m.slots) (λ r. Unit {0})) (slot_at m.slots i).present (λ p. recorded (move_in n s ts t m.slots i) (move_hook n (slot_at m.slots i).character i m.slots s ts t)) (λ p. h)
    where
      published : (c : Character) → Only (There ss) c.hook → (b : Bool) → Ends (λ (m : Moving). Holding m.slots) (λ r. Unit {0}) (publish m i (of_net (cond b (Ok (core_of c)) (Err TickTooLarge))))
      published c k true = holding_set m.slots i _ h refl (record_only (There ss) c k)
      published c k false = tt

      recorded : (d : Result Character Refusal) → Rests (λ d. d.hook ≡ (slot_at m.slots i).character.hook) d → Ends (λ (m : Moving). Holding m.slots) (λ r. Unit {0}) (publish m i (record_of d))
      recorded (Err e) q = tt
      recorded (Ok c) q = published c (subst (Only (There ss)) (sym q) (h.held i)) (leb (tick_of c.hook) most_tick)

  moves_hold : (us : List Slot) → Holding us → Ends (λ (m : Moving). Holding m.slots) (λ r. Unit {0}) (move_all n us s ts t)
  unfolding move_all
  moves_hold us = run-kept (move_turn n s ts t) (λ i m. Holding m.slots) (λ r. Unit {0}) move_turn_lem n 0 (moving_from n us)

-- ---- every call, and every list of them
-- whom a hook of w holds is there
abbrev pub HeldIn : World → Type 0
HeldIn w = (j : ℕ) → HoldsPresent w.slots (slot_at w.slots j)

module _ (n : ℕ) (s : Sides) (ts : List ℕ) where
  module _ (w : World) (h : HeldIn w) where
    -- nobody goes away
    set-held : (i : ℕ) (x : Slot) → ((slot_at w.slots i).present ≡ true → x.present ≡ true) → HoldsPresent w.slots x → HeldIn (with_slot w i x)
    set-held i x p k j = holds_only (There w.slots) (There (with_slot w i x).slots) (slot_at (set w.slots i x) j).character.hook (set_every (λ m y. HoldsPresent w.slots y) w.slots i x nowhere h k j) (λ m e. set_every (λ m y. (slot_at w.slots m).present ≡ true → y.present ≡ true) w.slots i x nowhere (λ m q. q) p m)

    -- who goes away is held by nobody
    vacated-held : (i : ℕ) → HeldIn (vacate w i)
    unfolding spawn
    vacated-held i j = holds_only (There w.slots) (There (vacate w i).slots) (hook j) (vacated_every w i (λ m y. HoldsPresent w.slots y) tt (λ m. released_only (slot_at w.slots m).character.hook i (There w.slots) (h m)) j) others
      where
        hook : ℕ → Hook
        hook m = (slot_at (vacate w i).slots m).character.hook

        others : (k : ℕ) → holds (hook j) k ≡ true → There w.slots k → There (vacate w i).slots k
        others k e q = ap (λ (y : Slot). y.present) (vacated_others w i k (λ d. true≢false (sym e ∙ ap (holds (hook j)) d ∙ nobody-holds w i j))) ∙ q

  -- ---- step
  module _ (w : World) (h : HeldIn w) where
    abbrev t : Tuning
    t = tuning_of w.tunings

    moved-held : (a : Turn Moving ℕ) → Ends (λ (m : Moving). Holding n s ts t w.slots m.slots) (λ r. Unit {0}) a → HeldIn (step_answer n w s ts a).world
    moved-held (stop r) k = h
    moved-held (more m) k = removed_kept HeldIn (λ v i g. vacated-held v g i) (dying n s ts m.slots) (record { slots = m.slots; tunings = w.tunings }) (λ j. holds_only (There w.slots) (There m.slots) (slot_at m.slots j).character.hook (k.held j) (λ i e q. k.there i ∙ q))

    ticked-held : (a : Turn (List Slot) ℕ) → Ends (Holding n s ts t w.slots) (λ r. Unit {0}) a → HeldIn (step_answer n w s ts (next (λ us. move_all n us s ts t) a)).world
    ticked-held (stop r) k = h
    ticked-held (more us) k = moved-held (move_all n us s ts t) (moves_hold n s ts t w.slots us k)

    step-held : HeldIn (step n w s ts).world
    unfolding step step_on
    step-held = by_test (λ (a : Stepped). HeldIn a.world) (is_map s ts) (λ e. ticked-held (tick_all n w.slots s ts t) (ticks_hold n s ts t w.slots (record { there = λ k. refl; held = h }))) (λ e. h)

  held_next : (w : World) (c : Call) → HeldIn w → HeldIn (ran n s ts w c).world
  unfolding spawn
  held_next w (Join id x y) h = outcome_kept HeldIn w _ _ (join_outcome n w s ts id x y) h (λ f. set-held w h (place_of n id) (joined_slot (point_of x y)) (λ q. refl) tt)
  held_next w (Leave id) h = outcome_kept HeldIn w _ _ (leave_outcome n w id) h (λ f. vacated-held w h (place_of n id))
  held_next w (Input id d x y j k) h = outcome_kept HeldIn w _ _ (input_outcome n w id (input_of d x y j k)) h (λ f. set-held w h (place_of n id) (with_input (slot_at w.slots (place_of n id)) (input_of d x y j k)) (λ q. q) (h (place_of n id)))
  held_next w (Tune index z) h = outcome_kept HeldIn w _ _ (tune_outcome w index z) h (λ f. h)
  held_next w Step h = step-held w h

  held_after : (cs : List Call) (w : World) → HeldIn w → HeldIn (after n s ts w cs)
  held_after [] w h = h
  held_after (c ∷ cs) w h = held_after cs (ran n s ts w c).world (held_next w c h)

fresh-held : (n : ℕ) → HeldIn (fresh n)
unfolding fresh spawn
fresh-held n = replicate_every (λ (x : Slot). HoldsPresent (fresh n).slots x) n empty_slot nowhere tt tt

pub held-present : (n : ℕ) → HeldPresent n
held-present n s ts cs j k e =
    let w = after n s ts (fresh n) cs in
    sym (present_follows n s ts cs k) ∙ only_holds (There w.slots) (slot_at w.slots j).character.hook k (held_after n s ts cs (fresh n) (fresh-held n) j) e
