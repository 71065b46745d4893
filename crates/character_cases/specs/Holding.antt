-- What a tick makes of a hook that holds somebody, whatever the hold: request 13. Definitions only; proofs/Holding.antt proves it.
use Rattle.std.specs.Prelude.{ℕ, ◌+◌, ◌≤◌, ◌<◌, true, false, List, ◌≡◌, ℤ, pos, get_or}
use Rattle.game_input.specs.Inputs.{hooks}
use Rattle.game_records.specs.declared.PlayerInput.{PlayerInput}
use Rattle.game_tuning.specs.Tuning.{hook_hold, hold_of}
use Rattle.map_tiles.specs.Map.{is_map}
use Rattle.map_tiles.specs.declared.tiles.Sides.{Sides}
use Rattle.character_hook.specs.declared.hook.CharacterId.{CharacterId}
use Rattle.character_hook.specs.declared.hook.Hook.{Hook}
use Rattle.character_hook.specs.declared.hook.Hook.TheVariants.{Retracted, Idle, Grabbed}
use Rattle.character.specs.Character.{with_hook}
use Rattle.character.specs.Tick.{tick}
use Rattle.character.specs.declared.Character.{Character}
use Rattle.character.specs.declared.Slot.{Slot}
use Rattle.std.specs.Prelude.{Result, Ok, Err}
use Rattle.character.specs.declared.tick.AfterTick.{AfterTick}
use Rattle.game_refusals.specs.declared.Refusal.{Refusal}

-- a tick was accepted, and leaves the character with the hook h
abbrev pub HookAfter : Hook → Result AfterTick Refusal → Type 0
HookAfter h (Err e) = ⊥
HookAfter h (Ok a) = a.me.hook ≡ h

-- of any character, with any hook that holds somebody, among any others, with any tunings
pub record TickHolds (n : ℕ) (c : Character) (id cid : CharacterId) (ticks : ℕ) (ss : List Slot) (s : Sides) (ts : List ℕ) (i : PlayerInput) (tunings : List ℤ) : Type 0 where
  -- with the hook input held: one tick more below the hold, Retracted at it or past it
  pub counts : hooks i ≡ true → ticks < hold_of (get_or tunings hook_hold (pos 0)) → HookAfter (Grabbed cid (ticks + 1)) (tick n (with_hook c (Grabbed cid ticks)) id ss s ts i tunings)
  pub retracts : hooks i ≡ true → hold_of (get_or tunings hook_hold (pos 0)) ≤ ticks → HookAfter Retracted (tick n (with_hook c (Grabbed cid ticks)) id ss s ts i tunings)
  -- with it released: Idle, as ever
  pub lets_go : hooks i ≡ false → HookAfter Idle (tick n (with_hook c (Grabbed cid ticks)) id ss s ts i tunings)

abbrev pub Holding : Type 0
Holding = (n : ℕ) (c : Character) (id cid : CharacterId) (ticks : ℕ) (ss : List Slot) (s : Sides) (ts : List ℕ) (i : PlayerInput) (tunings : List ℤ) → is_map s ts ≡ true → id.0 < n → TickHolds n c id cid ticks ss s ts i tunings
