-- What holds of a world between the calls beside that it is settled, and that a step with player collision 0 keeps it. Assumes nothing.
use Prim.Native.Nat.{ℕ, ◌<◌}
use native.Mathlib.Omega.{arith}
use mathlib.Core.Bool.{Bool, true, false, cond, ◌&&◌, true≢false}
use mathlib.Core.List.{List}
use mathlib.Core.Path.{◌≡◌, refl, sym, ap, ◌∙◌, subst}
use lib.Dec.{T}
use lib.Ieee.{binary32, ne}
use lib.Ieee.Fits.{nan-fits}
use lib.Ieee.Bits.{of_bits-fits}
use lib.IntN.{ℤ, pos}
use lib.ListN.{get_or}
use Rattle.base_turns.specs.Turns.{Turn, more, stop, next, run}
use Rattle.base_turns.proofs.Kept.{Ends}
use Rattle.num_convert.specs.Number.{c0}
use Rattle.map_tiles.specs.Map.{is_map}
use Rattle.map_tiles.specs.declared.tiles.Sides.{Sides}
use Rattle.game_tuning.specs.Tuning.{tuning_of}
use Rattle.game_tuning.proofs.Off.{collision_off}
use Rattle.game_tuning.specs.declared.Tuning.{Tuning}
use Rattle.character.specs.Slot.{empty_slot}
use Rattle.character.specs.Character.{spawn}
use Rattle.character.specs.Tick.{slot_at, nowhere}
use Rattle.character.specs.declared.Slot.{Slot}
use Rattle.character_laws.proofs.Slots.{set_every, replicate_every}
use Rattle.world.specs.World.{fresh, with_slot}
use Rattle.game_tuning.specs.Tuning.{fresh_tunings, player_collision}
use Rattle.world.specs.Calls.{vacate}
use Rattle.world.specs.Removal.{dies, dying, ids_in, is_in}
use Rattle.world.specs.Step.{Moving, tick_all, move_all, move_turn, moving_from, step_refused, step_answer, step_on, step}
use Rattle.world.specs.Demand3.{left, left_in, record_at, FaithfulTo, left_on_deadly}
use Rattle.world.specs.Answered.{Stepped}
use Rattle.world.specs.declared.World.{World}
use Rattle.world.proofs.Seats.{Same, Settling, ticks_same, moves-settle}
use Rattle.world.proofs.Removal.{dying_are, listed_ids, removed_kept}
use Rattle.world.proofs.Vacated.{vacated_every}
use Rattle.world.proofs.Standing.{Standing, Stands, ticks-stand}
use Rattle.world.proofs.Moves.{left_from, Sofar, moves_sofar}

module _ (n : ℕ) (s : Sides) (ts : List ℕ) where
  -- z is player collision
  pub record Reached (z : ℤ) (w : World) : Type 0 where
    pub stands : Stands s ts w.slots
    pub tuned : get_or w.tunings player_collision (pos 0) ≡ z

  -- ---- a slot set, and a fresh world
  pub set-reached : (z : ℤ) (w : World) (j : ℕ) (x : Slot) → Reached z w → Standing s ts x → Reached z (with_slot w j x)
  set-reached z w j x h a = record { stands = set_every (λ k. Standing s ts) w.slots j x nowhere h.stands a; tuned = h.tuned }

  empty_standing : Standing s ts empty_slot
  unfolding spawn
  empty_standing = record { clear = λ e. absurd (true≢false (sym e)); pos-fits = λ e. absurd (true≢false (sym e)); vel-fits = (of_bits-fits binary32 0, of_bits-fits binary32 0) }

  -- a hook is no part of it
  pub vacated_reached : (z : ℤ) (w : World) (k : ℕ) → Reached z w → Reached z (vacate w k)
  vacated_reached z w k h = record { stands = vacated_every w k (λ j. Standing s ts) empty_standing (λ j. record { clear = (h.stands j).clear; pos-fits = (h.stands j).pos-fits; vel-fits = (h.stands j).vel-fits }); tuned = h.tuned }

  nowhere_standing : Standing s ts nowhere
  nowhere_standing = record { clear = λ e. absurd (true≢false (sym e)); pos-fits = λ e. absurd (true≢false (sym e)); vel-fits = (nan-fits binary32, nan-fits binary32) }

  pub fresh-reached : Reached (pos 100) (fresh n)
  unfolding fresh fresh_tunings
  fresh-reached = record { stands = replicate_every (Standing s ts) n empty_slot nowhere empty_standing nowhere_standing; tuned = refl }

  -- ---- a step
  -- what a step's answer says of the world before it
  pub record Steps (z : ℤ) (w : World) (a : Stepped) : Type 0 where
    pub reached : Reached z a.world
    pub published : a.number ≡ 0 → (j : ℕ) → j < n → (record_at a.records j).present ≡ (slot_at w.slots j).present
    pub faithful : a.number ≡ 0 → (j : ℕ) → j < n → (slot_at w.slots j).present ≡ true → FaithfulTo (record_at a.records j).core (left n w s ts j)
    pub removed : a.number ≡ 0 → (j : ℕ) → j < n → is_in j (ids_in a.removed) ≡ ((slot_at w.slots j).present && left_on_deadly s ts (left n w s ts j))

  -- where the moves begin, `left` is what the move leaves from there
  left_is : (w : World) (us : List Slot) (j : ℕ) → tick_all n w.slots s ts (tuning_of w.tunings) ≡ more us → left_from n s ts (tuning_of w.tunings) us j ≡ left n w s ts j
  left_is w us j e = sym (ap (λ (a : Turn (List Slot) ℕ). left_in n s ts (tuning_of w.tunings) j (next (λ vs. run (move_turn n s ts (tuning_of w.tunings)) j 0 (moving_from n vs)) a)) e)

  module _ (w : World) (map : T (is_map s ts)) (h : Reached (pos 0) w) where
    abbrev t : Tuning
    t = tuning_of w.tunings

    off : ne t.player_collision c0 ≡ false
    off = collision_off w.tunings h.tuned

    -- refused: everything as it was
    refused : (k : ℕ) → 0 < k → Steps (pos 0) w (step_answer n w s ts (stop k))
    refused k l = record {
      reached = h;
      published = λ e. absurd (omega arith);
      faithful = λ e. absurd (omega arith);
      removed = λ e. absurd (omega arith);
    }

    accepted : (us : List Slot) (m : Moving) → tick_all n w.slots s ts t ≡ more us → Same w.slots us → Sofar n s ts t us n m → Steps (pos 0) w (step_answer n w s ts (more m))
    accepted us m e d f = record {
      reached = removed_kept (Reached (pos 0)) (vacated_reached (pos 0)) (dying n s ts m.slots) (record { slots = m.slots; tunings = w.tunings }) (record { stands = f.stands; tuned = h.tuned });
      published = λ z j l. (f.told j l).0 ∙ d.present j;
      faithful = λ z j l p. subst (FaithfulTo (record_at m.records j).core) (left_is w us j e) ((f.told j l).1 (d.present j ∙ p));
      removed = λ z j l. ap (is_in j) (listed_ids n (dying n s ts m.slots)) ∙ dying_are n s ts m.slots j l ∙ dead j l (slot_at w.slots j).present (f.settling.same.present j ∙ d.present j);
    }
      where
        dead : (j : ℕ) → j < n → (b : Bool) → (slot_at m.slots j).present ≡ b → dies s ts (slot_at m.slots j) ≡ (b && left_on_deadly s ts (left n w s ts j))
        dead j l true p = rw p (f.spiked j l (sym (f.settling.same.present j) ∙ p) ∙ ap (left_on_deadly s ts) (left_is w us j e))
        dead j l false p = rw p

    moved : (us : List Slot) → tick_all n w.slots s ts t ≡ more us → Same w.slots us → (a : Turn Moving ℕ) → Ends (Settling n s ts t us n) (λ k. 0 < k) a → Ends (Sofar n s ts t us n) (λ k. Unit {0}) a → Steps (pos 0) w (step_answer n w s ts a)
    moved us e d (stop k) l u = refused k l
    moved us e d (more m) g f = accepted us m e d f

    ticked : (a : Turn (List Slot) ℕ) → tick_all n w.slots s ts t ≡ a → Ends (Same w.slots) (λ k. 0 < k) a → Ends (Stands s ts) (λ k. Unit {0}) a → Steps (pos 0) w (step_answer n w s ts (next (λ us. move_all n us s ts t) a))
    ticked (stop k) e l u = refused k l
    ticked (more us) e d g = moved us e d (move_all n us s ts t) (moves-settle n s ts t us) (moves_sofar n s ts t map off us g)

    step-on : Steps (pos 0) w (step_on n w s ts)
    unfolding step_on
    step-on = ticked (tick_all n w.slots s ts t) refl (ticks_same n s ts t w.slots) (ticks-stand s ts n w.tunings w.slots h.stands)

  -- refused with 1 where the map is none
  pub steps : (w : World) → Reached (pos 0) w → Steps (pos 0) w (step n w s ts)
  unfolding step
  steps w h = go (is_map s ts) refl
    where
      go : (b : Bool) → is_map s ts ≡ b → Steps (pos 0) w (cond b (step_on n w s ts) (step_refused n w 1))
      go true e = step-on w (subst T (sym e) tt) h
      go false e = record { reached = h; published = λ z. absurd (omega arith); faithful = λ z. absurd (omega arith); removed = λ z. absurd (omega arith) }
