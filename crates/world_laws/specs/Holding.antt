-- The hook's hold in a step: request 13. Definitions only; proofs/Holding.antt proves it.
use Rattle.std.specs.Prelude.{ℕ, ◌+◌, ◌^◌, ◌≤◌, ◌<◌, true, List, ◌≡◌, ℤ, pos, negsuc, length}
use Rattle.game_records.specs.declared.PlayerInput.{PlayerInput}
use Rattle.game_tuning.specs.Tuning.{tuning_count}
use Rattle.map_tiles.specs.declared.tiles.Sides.{Sides}
use Rattle.character_hook.specs.declared.hook.CharacterId.{CharacterId}
use Rattle.character_hook.specs.declared.hook.Hook.TheVariants.{Grabbed}
use Rattle.character.specs.Tick.{slot_at}
use Rattle.world.specs.Demand3.{record_at}
use Rattle.world.specs.Hold.{hold_in}
use Rattle.world.specs.Run.{ran}
use Rattle.world.specs.declared.Published.{Published}
use Rattle.world.specs.declared.World.{World}
use Rattle.world.specs.declared.call.Call.TheVariants.{Step, Tune}

-- a record was taken, whose hook has this state, hooked player and tick
pub record HookTold (state player tick : ℤ) (p : Published) : Type 0 where
  pub present : p.present ≡ true
  pub hook_state : p.core.hook_state ≡ state
  pub hooked_player : p.core.hooked_player ≡ player
  pub hook_tick : p.core.hook_tick.0 ≡ tick

-- the record of an id with the input i, whose hook held who for k ticks before the step
pub record HoldTold (i : PlayerInput) (hold : ℕ) (who : CharacterId) (k : ℕ) (p : Published) : Type 0 where
  -- with the button held: one tick more below the hold, Retracted at the hold or above
  pub counts : (i.hook ≡ pos 0 → ⊥) → k < hold → who.0 < 2 ^ 31 → HookTold (pos 5) (pos who.0) (pos (k + 1)) p
  pub retracts : (i.hook ≡ pos 0 → ⊥) → hold ≤ k → HookTold (negsuc 0) (negsuc 0) (pos 0) p
  -- with the button not held: Idle
  pub lets_go : i.hook ≡ pos 0 → HookTold (pos 0) (negsuc 0) (pos 0) p

-- the id j is present in w, and its hook has held who for k ticks
pub record Holder (w : World) (j : ℕ) (who : CharacterId) (k : ℕ) : Type 0 where
  pub present : (slot_at w.slots j).present ≡ true
  pub holds : (slot_at w.slots j).character.hook ≡ Grabbed who k

-- an accepted step on any world; also right after a tune of the hold, which counts for hooks that hold already
pub record StepHolds (n : ℕ) : Type 0 where
  pub step : (s : Sides) (ts : List ℕ) (w : World) (j : ℕ) (who : CharacterId) (k : ℕ) → (ran n s ts w Step).number ≡ 0 → j < n → Holder w j who k →
      HoldTold (slot_at w.slots j).input (hold_in w) who k (record_at (ran n s ts w Step).records j)
  pub tuned : (s : Sides) (ts : List ℕ) (w : World) (j : ℕ) (who : CharacterId) (k hold : ℕ) → 1 ≤ hold → hold ≤ 60 → length w.tunings ≡ tuning_count →
      let v = (ran n s ts w (Tune (pos 18) (pos hold))).world in
      (ran n s ts v Step).number ≡ 0 → j < n → Holder w j who k → HoldTold (slot_at w.slots j).input hold who k (record_at (ran n s ts v Step).records j)
