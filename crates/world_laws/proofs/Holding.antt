-- A hook that holds somebody is counted in its own tick, and nothing else in a step changes it. Assumes nothing.
use Prim.Native.Nat.{ℕ, zero, suc, ◌+◌, ◌^◌, ◌≤◌, ◌<◌}
use native.Mathlib.Omega.{arith}
use mathlib.Core.Bool.{Bool, true, false, cond}
use mathlib.Core.List.{List}
use mathlib.Core.Path.{◌≡◌, refl, sym, ap, ◌∙◌, subst}
use lib.IntN.{ℤ, pos, negsuc, nat_abs}
use lib.ListN.{length, get_or}
use borrow.Author.Tests.{ne_eqb, lt-ltb, le-leb}
use Rattle.base_turns.proofs.Kept.{Ends}
use Rattle.num_convert.specs.Casts.{cast_signed}
use Rattle.num_vec2.specs.declared.vec2.{vec2}
use Rattle.game_input.specs.Inputs.{target_dir, pressed, hooks}
use Rattle.game_records.specs.declared.PlayerInput.{PlayerInput}
use Rattle.game_tuning.specs.Tuning.{tuning_count, hook_hold, is_hold, tuning_of}
use Rattle.game_tuning.specs.declared.Tuning.{Tuning}
use Rattle.map_tiles.specs.declared.tiles.Sides.{Sides}
use Rattle.character_hook.specs.Flying.{flown}
use Rattle.character_hook.specs.Hook.{net_state, tick_of, net_hooked_player}
use Rattle.character_hook.specs.Hooking.{fired, fire, retract, hold}
use Rattle.character_hook.specs.declared.hook.CharacterId.{CharacterId}
use Rattle.character_hook.specs.declared.hook.Hook.{Hook}
use Rattle.character_hook.specs.declared.hook.Hook.TheVariants.{Retracted, Idle, Grabbed}
use Rattle.character_hook.proofs.Hold.{held_past, held_on}
use Rattle.character.specs.Records.{core_of}
use Rattle.character.specs.Tick.{slot_at, steer, caught, flight, hooked, tick_at, ticked_slot}
use Rattle.character.specs.declared.Character.{Character}
use Rattle.character.specs.declared.Slot.{Slot}
use Rattle.character_laws.proofs.Others.{Then, SameButVel}
use Rattle.world.specs.Calls.{tune}
use Rattle.world.specs.Demand3.{record_at}
use Rattle.world.specs.Hold.{hold_in}
use Rattle.world.specs.Step.{tick_all, step}
use Rattle.world.specs.World.{with_tuning}
use Rattle.world.specs.Answered.{Answer}
use Rattle.world.specs.declared.Published.{Published}
use Rattle.world.specs.declared.World.{World}
use Rattle.world.proofs.Hold.{hook_hold_is}
use Rattle.world_laws.specs.Holding.{HookTold, HoldTold, Holder, StepHolds}
use Rattle.world_laws.proofs.Left.{step-taken}
use Rattle.world_laws.proofs.Ticks.{ticks_own}
use Rattle.std.specs.Prelude.{Result, Ok, Err}
use Rattle.character.specs.declared.tick.AfterTick.{AfterTick}
use Rattle.game_refusals.specs.declared.Refusal.{Refusal}

-- ---- the button
held_down : (z : ℤ) → (z ≡ pos 0 → ⊥) → pressed z ≡ true
held_down (pos zero) h = absurd (h refl)
held_down (pos (suc k)) h = rw (ne_eqb (suc k) 0 (λ e. omega (arith, e)))
held_down (negsuc k) h = refl

-- ---- the ticks
module _ (who : CharacterId) (k : ℕ) where
  -- a hook that holds who for k ticks, after its button and before it is counted
  abbrev kept : PlayerInput → Hook
  kept i = cond (hooks i) (Grabbed who k) Idle

  flight-held : (n id : ℕ) (ss : List Slot) (s : Sides) (ts : List ℕ) (t : Tuning) (b : Bool) (p d : vec2) → flight n (fire (Grabbed who k) b p d) p id ss s ts t ≡ Ok (cond b (Grabbed who k) Idle)
  unfolding fire fired flown caught retract
  flight-held n id ss s ts t true p d = refl
  flight-held n id ss s ts t false p d = refl

  tick-held : (n : ℕ) (c : Character) (id : ℕ) (ss : List Slot) (s : Sides) (ts : List ℕ) (i : PlayerInput) (t : Tuning) → c.hook ≡ Grabbed who k → Then (λ a. a.me.hook ≡ hold (kept i) t.hook_hold) (tick_at n c id ss s ts i t)
  unfolding tick_at steer hooked
  tick-held n c id ss s ts i t e = rw (e, flight-held n id ss s ts t (hooks i) c.pos (target_dir i)) refl

  -- a slot whose hook holds who for k ticks
  record Holding (i : PlayerInput) (x : Slot) : Type 0 where
    present : x.present ≡ true
    input : x.input ≡ i
    hook : x.character.hook ≡ Grabbed who k

  ticks_held : (n : ℕ) (s : Sides) (ts : List ℕ) (t : Tuning) (j : ℕ) (i : PlayerInput) → j < n → (us : List Slot) → Holding i (slot_at us j) → Ends (λ vs. (slot_at vs j).character.hook ≡ hold (kept i) t.hook_hold) (λ q. Unit {0}) (tick_all n us s ts t)
  ticks_held n s ts t j i = ticks_own n s ts t j (Holding i) (λ x. x.character.hook ≡ hold (kept i) t.hook_hold) (λ x h. h.present)
      (λ x y e h. subst (Holding i) (sym e) (record { present = h.present; input = h.input; hook = h.hook })) (λ x y e h. subst (λ (z : Slot). z.character.hook ≡ hold (kept i) t.hook_hold) (sym e) h)
      (λ us h. own us (tick_at n (slot_at us j).character j us s ts (slot_at us j).input t) (rw h.input (tick-held n (slot_at us j).character j us s ts i t h.hook)))
    where
      own : (us : List Slot) (r : Result AfterTick Refusal) → Then (λ a. a.me.hook ≡ hold (kept i) t.hook_hold) r → Then (λ a. (x : Slot) → SameButVel (slot_at us j) x → (ticked_slot x a).character.hook ≡ hold (kept i) t.hook_hold) r
      own us (Err why) e = tt
      own us (Ok a) e = λ x q. e

-- ---- the record
told : (h : Hook) (c : Character) (p : Published) → c.hook ≡ h → p ≡ record { present = true; core = core_of c } → HookTold (net_state h) (net_hooked_player h) (pos (tick_of h)) p
unfolding core_of
told h c p e q = record {
  present = ap (λ (x : Published). x.present) q;
  hook_state = ap (λ (x : Published). x.core.hook_state) q ∙ ap net_state e;
  hooked_player = ap (λ (x : Published). x.core.hooked_player) q ∙ ap net_hooked_player e;
  hook_tick = ap (λ (x : Published). x.core.hook_tick.0) q ∙ ap (λ (x : Hook). pos (tick_of x)) e;
}

module _ (n : ℕ) (s : Sides) (ts : List ℕ) (w : World) (j : ℕ) (who : CharacterId) (k : ℕ) (e : (step n w s ts).number ≡ 0) (l : j < n) (h : Holder w j who k) where
  abbrev i : PlayerInput
  i = (slot_at w.slots j).input

  abbrev z : ℤ
  z = get_or w.tunings hook_hold (pos 0)

  abbrev p : Published
  p = record_at (step n w s ts).records j

  -- the record of a character whose hook is counted
  record Counted : Type 0 where
    made : Character
    hook : made.hook ≡ hold (kept who k i) z
    is : p ≡ record { present = true; core = core_of made }

  counted : Counted
  unfolding tuning_of
  counted =
      let t = tuning_of w.tunings in
      let r = step-taken n w s ts _ _ (ticks_held who k n s ts t j i l w.slots (record { present = h.present; input = refl; hook = h.holds })) e in
      let q = r.taken j l (r.same.present j ∙ h.present) in
      record { made = q.made; hook = ap (λ (c : Character). c.hook) q.rest ∙ r.ticked; is = q.is }

  -- the record of a hook that the count makes
  tells : (x : Hook) → hold (kept who k i) z ≡ x → HookTold (net_state x) (net_hooked_player x) (pos (tick_of x)) p
  tells x q = told x counted.made p (counted.hook ∙ q) counted.is

  held : (i.hook ≡ pos 0 → ⊥) → kept who k i ≡ Grabbed who k
  unfolding hooks
  held b = rw (held_down i.hook b)

  pub step-told : HoldTold i (hold_in w) who k p
  unfolding net_state net_hooked_player tick_of hold hooks cast_signed
  step-told = record {
    counts = λ b g few. subst (λ (x : ℤ). HookTold (pos 5) x (pos (k + 1)) p) (rw (lt-ltb who.0 (2 ^ 31) few)) (tells (Grabbed who (k + 1)) (ap (λ (x : Hook). hold x z) (held b) ∙ held_on who k z g));
    retracts = λ b g. tells Retracted (ap (λ (x : Hook). hold x z) (held b) ∙ held_past who k z g);
    lets_go = λ b. tells Idle (ap (λ (x : ℤ). hold (cond (pressed x) (Grabbed who k) Idle) z) b);
  }

-- ---- after a tune of the hold
module _ (n : ℕ) (s : Sides) (ts : List ℕ) (w : World) (j : ℕ) (who : CharacterId) (k hold : ℕ) (least : 1 ≤ hold) (most : hold ≤ 60) (full : length w.tunings ≡ tuning_count) where
  is_hold_lem : is_hold (pos hold) ≡ true
  unfolding is_hold
  is_hold_lem = rw (le-leb 1 hold least, le-leb hold 60 most)

  tunes : (tune w (pos 18) (pos hold)).world ≡ with_tuning w hook_hold (pos hold)
  tunes = ap (λ (a : Answer). a.world) ((hook_hold_is n).alters w (pos hold) is_hold_lem)

  holds_so : hold_in (with_tuning w hook_hold (pos hold)) ≡ hold
  holds_so = ap nat_abs ((hook_hold_is n).taken w (pos hold) is_hold_lem full)

  tuned : (step n (tune w (pos 18) (pos hold)).world s ts).number ≡ 0 → j < n → Holder w j who k → HoldTold (slot_at w.slots j).input hold who k (record_at (step n (tune w (pos 18) (pos hold)).world s ts).records j)
  tuned = rw tunes (λ e l h. subst (λ (x : ℕ). HoldTold (slot_at w.slots j).input x who k (record_at (step n (with_tuning w hook_hold (pos hold)) s ts).records j)) holds_so (step-told n s ts (with_tuning w hook_hold (pos hold)) j who k e l (record { present = h.present; holds = h.holds })))

pub step-holds : (n : ℕ) → StepHolds n
step-holds n = record { step = step-told n; tuned = tuned n }
