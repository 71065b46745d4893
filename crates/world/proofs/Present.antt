-- Who is there, as the slots say it and as the calls do: the same after every list of calls, whatever player collision is. Assumes nothing.
use Prim.Native.Nat.{ℕ, ◌<◌}
use mathlib.Core.Bool.{Bool, true, false, cond, ◌&&◌}
use mathlib.Core.List.{List, [], ◌∷◌}
use mathlib.Core.Path.{◌≡◌, refl, sym, ap, ◌∙◌}
use native.Mathlib.Omega.{arith}
use lib.Dec.{eqb}
use lib.ListN.{length}
use Rattle.base_turns.specs.Turns.{Turn, more, stop, next}
use Rattle.base_turns.proofs.Kept.{Ends}
use Rattle.map_tiles.specs.Map.{is_map}
use Rattle.map_tiles.specs.declared.tiles.Sides.{Sides}
use Rattle.game_tuning.specs.Tuning.{tuning_of}
use Rattle.game_tuning.specs.declared.Tuning.{Tuning}
use Rattle.character.specs.Slot.{empty_slot, joined_slot, with_input}
use Rattle.character.specs.Tick.{slot_at, nowhere}
use Rattle.character.specs.declared.Slot.{Slot}
use Rattle.character_laws.proofs.Slots.{replicate_every}
use Rattle.world.specs.declared.call.Call.{Call}
use Rattle.world.specs.declared.call.Call.TheVariants.{Join, Leave, Input, Step, Tune}
use Rattle.world.specs.World.{fresh}
use Rattle.world.specs.Calls.{place_of, point_of, join, released_slot, leave, input}
use Rattle.world.specs.Removal.{dying, ids_in, is_in}
use Rattle.world.specs.Step.{Moving, tick_all, move_all, step_answer, step_on, step}
use Rattle.world.specs.Run.{input_of, ran, after}
use Rattle.world.specs.Demand3.{present_after, present}
use Rattle.world.specs.Settled.{Settled}
use Rattle.world.specs.Answered.{Stepped}
use Rattle.world.specs.declared.World.{World}
use Rattle.world.proofs.Removal.{dying_within, listed_ids, removed_present}
use Rattle.world.proofs.Seats.{by_test, Same, Settling, ticks_same, moves-settle}
use Rattle.world.proofs.NextSlot.{join_slot, leave_slot, input_slot, tune_slot}
use Rattle.world.proofs.Settled.{answer-settled, after_settled}

-- the presence of what a test picks
pick : (b : Bool) (x y : Slot) → (cond b x y).present ≡ cond b x.present y.present
pick true x y = refl
pick false x y = refl

-- a slot that is released is as present as it was
left : (b c : Bool) (x : Slot) (j : ℕ) → (cond b (cond c empty_slot (released_slot x j)) x).present ≡ cond (c && b) false x.present
left true true x j = refl
left true false x j = refl
left false true x j = refl
left false false x j = refl

stays : (b c : Bool) → cond b c c ≡ c
stays true c = refl
stays false c = refl

module _ (n : ℕ) (s : Sides) (ts : List ℕ) where
  -- ---- step
  module _ (w : World) (full : length w.slots ≡ n) where
    abbrev t : Tuning
    t = tuning_of w.tunings

    -- there after it: whoever was and is not removed
    abbrev pub Stays : Stepped → Type 0
    Stays a = (k : ℕ) → (slot_at a.world.slots k).present ≡ cond (is_in k (ids_in a.removed)) false (slot_at w.slots k).present

    moved : (us : List Slot) → Same w.slots us → (a : Turn Moving ℕ) → Ends (Settling n s ts t us n) (λ r. 0 < r) a → Stays (step_answer n w s ts a)
    moved us d (stop r) l k = refl
    moved us d (more m) f k =
        let ids = dying n s ts m.slots in
        let size : length m.slots ≡ n = f.same.size ∙ d.size ∙ full in
        removed_present k ids (record { slots = m.slots; tunings = w.tunings }) (λ e. let l = dying_within n s ts m.slots k e in omega (arith, size, l))
        ∙ ap (λ (b : Bool). cond (is_in k ids) false b) (f.same.present k ∙ d.present k)
        ∙ ap (λ (js : List ℕ). cond (is_in k js) false (slot_at w.slots k).present) (sym (listed_ids n ids))

    ticked : (a : Turn (List Slot) ℕ) → Ends (Same w.slots) (λ r. 0 < r) a → Stays (step_answer n w s ts (next (λ us. move_all n us s ts t) a))
    ticked (stop r) l k = refl
    ticked (more us) d k = moved us d (move_all n us s ts t) (moves-settle n s ts t us) k

    pub step-present : Stays (step n w s ts)
    unfolding step step_on
    step-present = by_test Stays (is_map s ts) (λ e. ticked (tick_all n w.slots s ts t) (ticks_same n s ts t w.slots)) (λ e k. refl)

  -- ---- every call, and every list of them
  pub present-next : (w : World) (c : Call) → Settled n w → (k : ℕ) → (slot_at (ran n s ts w c).world.slots k).present ≡ present_after n k (slot_at w.slots k).present (ran n s ts w c) c
  present-next w (Join id x y) g k = ap (λ (y : Slot). y.present) (join_slot n s ts w g.seats k id x y) ∙ pick (eqb (place_of n id) k && eqb (join n w s ts id x y).number 0) (joined_slot (point_of x y)) (slot_at w.slots k)
  present-next w (Leave id) g k = ap (λ (y : Slot). y.present) (leave_slot n s ts w g.seats k id) ∙ left (eqb (leave n w id).number 0) (eqb (place_of n id) k) (slot_at w.slots k) (place_of n id)
  present-next w (Input id d x y j h) g k =
      let i = input_of d x y j h in
      let old = slot_at w.slots k in
      let b = eqb (place_of n id) k && eqb (input n w id i).number 0 in
      ap (λ (y : Slot). y.present) (input_slot n s ts w g.seats k id i) ∙ pick b (with_input old i) old ∙ stays b old.present
  present-next w (Tune index z) g k = ap (λ (y : Slot). y.present) (tune_slot n s ts w g.seats k index z)
  present-next w Step g k = step-present w g.seats k

  pub present-after : (cs : List Call) (w : World) → Settled n w → (k : ℕ) → (slot_at (after n s ts w cs).slots k).present ≡ present n s ts k (slot_at w.slots k).present w cs
  present-after [] w g k = refl
  present-after (c ∷ cs) w g k = present-after cs (ran n s ts w c).world (answer-settled n s ts w c g) k ∙ ap (λ (b : Bool). present n s ts k b (ran n s ts w c).world cs) (present-next w c g k)

-- nobody is in a fresh world
pub fresh_absent : (n k : ℕ) → (slot_at (fresh n).slots k).present ≡ false
unfolding fresh
fresh_absent n = replicate_every (λ (x : Slot). x.present ≡ false) n empty_slot nowhere refl refl

-- so from a fresh world on
pub present_follows : (n : ℕ) (s : Sides) (ts : List ℕ) (cs : List Call) (k : ℕ) → (slot_at (after n s ts (fresh n) cs).slots k).present ≡ present n s ts k false (fresh n) cs
present_follows n s ts cs k = present-after n s ts cs (fresh n) (after_settled n s ts []) k ∙ ap (λ (b : Bool). present n s ts k b (fresh n) cs) (fresh_absent n k)
