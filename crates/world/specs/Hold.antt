-- The hook's hold: what a tune does to it, and that no record tells a longer one. Definitions only; proofs/Hold.antt proves it.
use Rattle.std.specs.Prelude.{ℕ, ◌≤◌, true, false, List, ◌≡◌, ℤ, pos, length, get_or, ◌≤ℤ◌}
use Rattle.game_constants.specs.Constants.{max_hook_grab_time}
use Rattle.game_records.specs.declared.CharacterCore.{CharacterCore}
use Rattle.game_refusals.specs.Refusals.{bad_tuning, bad_hold}
use Rattle.game_tuning.specs.Tuning.{tuning_count, hook_hold, is_hold, hold_of}
use Rattle.map_tiles.specs.declared.tiles.Sides.{Sides}
use Rattle.world.specs.World.{fresh, with_tuning}
use Rattle.world.specs.Calls.{refused, accepted, place_of, tune}
use Rattle.world.specs.Demand3.{record_at}
use Rattle.world.specs.Readers.{read_of}
use Rattle.world.specs.Run.{after}
use Rattle.world.specs.Step.{step}
use Rattle.world.specs.declared.World.{World}
use Rattle.world.specs.declared.call.Call.{Call}
use Rattle.world.specs.declared.reading.Query.TheVariants as query
use Rattle.world.specs.ReadAnswer as reading

-- for how many steps a hook holds in the world w
abbrev pub hold_in : World → ℕ
hold_in w = hold_of (get_or w.tunings hook_hold (pos 0))

-- the record's hook tick is one of 0 to m
pub record TicksWithin (m : ℕ) (c : CharacterCore) : Type 0 where
  pub ticks : ℕ
  pub told : c.hook_tick.0 ≡ pos ticks
  pub within : ticks ≤ m

-- request 13, for worlds of n slots
pub record HookHold (n : ℕ) : Type 0 where
  -- it is 60 when fresh
  pub first : hold_in (fresh n) ≡ 60
  -- a hold is a number from 1 to 60, and every one of them is
  pub limits : (z : ℤ) → (is_hold z ≡ true → (pos 1 ≤ℤ z) × (z ≤ℤ pos 60)) × ((pos 1 ≤ℤ z) × (z ≤ℤ pos 60) → is_hold z ≡ true)
  -- an index outside 0 to 18 is refused with 3, whatever the number
  pub unknown : (w : World) (index z : ℤ) → place_of tuning_count index ≡ tuning_count → tune w index z ≡ refused w bad_tuning
  -- a tune of a hold alters nothing else, and the world holds for that long; what is no hold is refused with 16
  pub alters : (w : World) (z : ℤ) → is_hold z ≡ true → tune w (pos hook_hold) z ≡ accepted (with_tuning w hook_hold z)
  pub taken : (w : World) (z : ℤ) → is_hold z ≡ true → length w.tunings ≡ tuning_count → pos (hold_in (with_tuning w hook_hold z)) ≡ z
  pub declined : (w : World) (z : ℤ) → is_hold z ≡ false → tune w (pos hook_hold) z ≡ refused w bad_hold
  -- no record that a step takes tells a longer hold than the world's
  pub step_within : (s : Sides) (ts : List ℕ) (w : World) → length w.slots ≤ n → (j : ℕ) → TicksWithin (hold_in w) (record_at (step n w s ts).records j).core
  -- after any list of calls from a fresh world no record that is read tells one above 60
  pub ever_within : (s : Sides) (ts : List ℕ) (cs : List Call) (id : ℤ) (c : CharacterCore) → read_of n (after n s ts (fresh n) cs) (query.Record id) ≡ reading.Record c → TicksWithin max_hook_grab_time c
