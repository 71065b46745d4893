-- The hook's hold: a tune alters nothing else, no record of a step tells a longer one, and none from a fresh world on one above 60. Assumes nothing.
use Prim.Native.Nat.{ℕ, ◌≤◌}
use native.Mathlib.Omega.{arith}
use native.Mathlib.Nat.{le_trans}
use mathlib.Core.Bool.{Bool, true, false, ◌&&◌, true≢false}
use mathlib.Core.List.{List, [], ◌∷◌}
use mathlib.Core.Path.{◌≡◌, refl, sym, ap, ◌∙◌, subst}
use denote.Floats.{passes, is_true}
use lib.Dec.{leb, eqb}
use lib.Ieee.Fits.{and_i, and_l, and_r}
use lib.IntN.{ℤ, pos, negsuc}
use lib.ListN.{get_or}
use lib.Seq.{get_or-set_same}
use lib.Signed.{◌≤ℤ◌, le_z_yes}
use borrow.Author.Tests.{eqb-true, eqb-false}
use Rattle.game_constants.specs.Constants.{max_hook_grab_time}
use Rattle.game_records.specs.declared.CharacterCore.{CharacterCore}
use Rattle.game_tuning.specs.Tuning.{hook_hold, fresh_tunings, is_hold, hold_of, may_tune, tuning_of}
use Rattle.game_tuning.proofs.Hold.{hold_is, hold_most}
use Rattle.map_tiles.specs.declared.tiles.Sides.{Sides}
use Rattle.character_hook.specs.Hook.{tick_of}
use Rattle.character.specs.Character.{spawn}
use Rattle.character.specs.Records.{to_net}
use Rattle.character.specs.Slot.{empty_slot, joined_slot, with_input}
use Rattle.character.specs.Tick.{slot_at, nowhere}
use Rattle.character.specs.declared.Character.{Character}
use Rattle.character_laws.proofs.Back.{record_of_lem}
use Rattle.character_laws.proofs.Slots.{set_every, replicate_every}
use Rattle.world.specs.Calls.{place_of, point_of, tune}
use Rattle.world.specs.Hold.{TicksWithin, HookHold}
use Rattle.world.specs.Readers.{read_of}
use Rattle.world.specs.Run.{input_of, ran, after}
use Rattle.world.specs.Step.{step}
use Rattle.world.specs.World.{fresh}
use Rattle.world.specs.declared.World.{World}
use Rattle.world.specs.declared.call.Call.{Call}
use Rattle.world.specs.declared.call.Call.TheVariants.{Join, Leave, Input, Step, Tune}
use Rattle.world.specs.declared.reading.Query.TheVariants as query
use Rattle.world.specs.ReadAnswer as reading
use Rattle.world.specs.Settled.{Settled}
use Rattle.world.proofs.Demand1.{demand1}
use Rattle.world.proofs.Numbers.{core_within, step-answer}
use Rattle.world.proofs.Outcomes.{outcome_kept, join_outcome, leave_outcome, input_outcome, tune_outcome}
use Rattle.world.proofs.Readings.{record_read}
use Rattle.world.proofs.Settled.{answer-settled, after_settled}
use Rattle.world.proofs.Vacated.{released-kept, vacated_every}
use Rattle.std.specs.Prelude.{Ok}

-- nobody who is there has held for more than 60 ticks
abbrev ShortIn : World → Type 0
ShortIn w = (k : ℕ) → (slot_at w.slots k).present ≡ true → tick_of (slot_at w.slots k).character.hook ≤ max_hook_grab_time

-- ---- calls
module _ (n : ℕ) (s : Sides) (ts : List ℕ) where
  step-short : (w : World) → Settled n w → ShortIn w → ShortIn (step n w s ts).world
  unfolding tuning_of
  step-short w g h = go (eqb (step n w s ts).number 0) refl
    where
      go : (b : Bool) → eqb (step n w s ts).number 0 ≡ b → ShortIn (step n w s ts).world
      go true e = λ k p. le_trans ((step-answer n w s ts (omega (arith, g.seats))).short (eqb-true _ 0 e) k p) (hold_most (get_or w.tunings hook_hold (pos 0)))
      go false e = subst ShortIn (sym (demand1 n s ts w Step (eqb-false _ 0 e))) h

  short-next : (w : World) (c : Call) → Settled n w → ShortIn w → ShortIn (ran n s ts w c).world
  unfolding spawn tick_of
  short-next w (Join id x y) g h = outcome_kept ShortIn w _ _ (join_outcome n w s ts id x y) h (λ f. set_every (λ k y. y.present ≡ true → tick_of y.character.hook ≤ max_hook_grab_time) w.slots _ (joined_slot (point_of x y)) nowhere h (λ q. omega arith))
  short-next w (Leave id) g h = outcome_kept ShortIn w _ _ (leave_outcome n w id) h (λ f. vacated_every w (place_of n id) (λ k y. y.present ≡ true → tick_of y.character.hook ≤ max_hook_grab_time) (λ q. omega arith) (λ j q. released-kept (slot_at w.slots j).character.hook (place_of n id) (λ o. tick_of o ≤ max_hook_grab_time) (omega arith) (λ e. h j q)))
  short-next w (Input id d x y j k) g h = outcome_kept ShortIn w _ _ (input_outcome n w id (input_of d x y j k)) h (λ f. set_every (λ i y. y.present ≡ true → tick_of y.character.hook ≤ max_hook_grab_time) w.slots _ (with_input (slot_at w.slots (place_of n id)) (input_of d x y j k)) nowhere h (h (place_of n id)))
  short-next w (Tune index z) g h = outcome_kept ShortIn w _ _ (tune_outcome w index z) h (λ f. h)
  short-next w Step g h = step-short w g h

  short-after : (cs : List Call) (w : World) → Settled n w → ShortIn w → ShortIn (after n s ts w cs)
  short-after [] w g h = h
  short-after (c ∷ cs) w g h = short-after cs (ran n s ts w c).world (answer-settled n s ts w c g) (short-next w c g h)

fresh-short : (n : ℕ) → ShortIn (fresh n)
unfolding fresh spawn tick_of
fresh-short n = replicate_every (λ x. x.present ≡ true → tick_of x.character.hook ≤ max_hook_grab_time) n empty_slot nowhere (λ q. omega arith) (λ q. omega arith)

-- ---- what is read
-- the record of whoever has held for so long
record_within : (x : Character) (m : ℕ) → tick_of x.hook ≤ m → (c : CharacterCore) → to_net x ≡ Ok c → TicksWithin m c
record_within x m l c e = subst (TicksWithin m) (sym (record_of_lem x c e).0) (core_within x m l)

read_within : (n : ℕ) (w : World) → ShortIn w → (id : ℤ) (c : CharacterCore) → read_of n w (query.Record id) ≡ reading.Record c → TicksWithin max_hook_grab_time c
read_within n w h id c e = let r = record_read n w id c e in record_within (slot_at w.slots (place_of n id)).character max_hook_grab_time (h (place_of n id) r.there) c r.net

-- ---- the theorem
-- ---- its limits
hold_limits : (z : ℤ) → is_hold z ≡ true → (pos 1 ≤ℤ z) × (z ≤ℤ pos 60)
unfolding is_hold
hold_limits (pos n) e = let t = passes (leb 1 n && leb n 60) e in (le_z_yes (and_l (leb 1 n) (leb n 60) t), le_z_yes (and_r (leb 1 n) (leb n 60) t))
hold_limits (negsuc k) e = absurd (true≢false (sym e))

limits_hold : (z : ℤ) → (pos 1 ≤ℤ z) × (z ≤ℤ pos 60) → is_hold z ≡ true
unfolding is_hold
limits_hold (pos n) l = is_true (leb 1 n && leb n 60) (and_i (leb 1 n) (leb n 60) l.0.le l.1.le)
limits_hold (negsuc k) l = absurd l.0.le

pub hook_hold_is : (n : ℕ) → HookHold n
unfolding tune may_tune is_hold place_of fresh fresh_tunings hold_of tuning_of
hook_hold_is n = record {
  first = refl;
  limits = λ z. (hold_limits z, limits_hold z);
  unknown = λ w index z e. rw e refl;
  alters = λ w z e. rw e refl;
  taken = λ w z e l. ap (λ (y : ℤ). pos (hold_of y)) (get_or-set_same w.tunings hook_hold z (pos 0) (omega (arith, l))) ∙ hold_is z e;
  declined = λ w z e. rw e refl;
  step_within = λ s ts w full. (step-answer n w s ts full).told;
  ever_within = λ s ts cs id c. read_within n (after n s ts (fresh n) cs) (short-after n s ts cs (fresh n) (after_settled n s ts []) (fresh-short n)) id c;
}
