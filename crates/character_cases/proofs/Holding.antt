-- A held hook does not fly: it is what the count makes of it, and Idle where the input is released. Assumes nothing.
use Prim.Native.Nat.{ℕ, ◌<◌}
use mathlib.Core.Bool.{true, false}
use mathlib.Core.List.{List}
use mathlib.Core.Path.{◌≡◌, refl, subst}
use lib.IntN.{ℤ, pos}
use lib.ListN.{get_or}
use borrow.Author.Tests.{lt-ltb}
use Rattle.game_input.specs.Inputs.{hooks}
use Rattle.game_records.specs.declared.PlayerInput.{PlayerInput}
use Rattle.game_tuning.specs.Tuning.{hook_hold, tuning_of}
use Rattle.map_tiles.specs.Map.{is_map}
use Rattle.map_tiles.specs.declared.tiles.Sides.{Sides}
use Rattle.character_hook.specs.Flying.{flown}
use Rattle.character_hook.specs.Hooking.{fired, fire, retract, hold}
use Rattle.character_hook.specs.declared.hook.CharacterId.{CharacterId}
use Rattle.character_hook.specs.declared.hook.Hook.{Hook}
use Rattle.character_hook.specs.declared.hook.Hook.TheVariants.{Idle, Grabbed}
use Rattle.character_hook.proofs.Hold.{held_past, held_on}
use Rattle.character.specs.Character.{with_hook}
use Rattle.character.specs.Tick.{steer, caught, hooked, tick_at, tick}
use Rattle.character.specs.declared.Character.{Character}
use Rattle.character.specs.declared.Slot.{Slot}
use Rattle.character_cases.specs.Holding.{HookAfter, Holding}

module _ (n : ℕ) (c : Character) (id cid : CharacterId) (ticks : ℕ) (ss : List Slot) (s : Sides) (ts : List ℕ) (i : PlayerInput) (tunings : List ℤ) (m : is_map s ts ≡ true) (l : id.0 < n) where
  held_after : hooks i ≡ true → HookAfter (hold (Grabbed cid ticks) (get_or tunings hook_hold (pos 0))) (tick n (with_hook c (Grabbed cid ticks)) id ss s ts i tunings)
  unfolding tick tick_at steer fire fired flown caught hooked retract tuning_of
  held_after p = rw (m, lt-ltb id.0 n l, p) refl

  pub held_as : (h : Hook) → hooks i ≡ true → hold (Grabbed cid ticks) (get_or tunings hook_hold (pos 0)) ≡ h → HookAfter h (tick n (with_hook c (Grabbed cid ticks)) id ss s ts i tunings)
  held_as h p e = subst (λ (x : Hook). HookAfter x (tick n (with_hook c (Grabbed cid ticks)) id ss s ts i tunings)) e (held_after p)

  idle_after : hooks i ≡ false → HookAfter Idle (tick n (with_hook c (Grabbed cid ticks)) id ss s ts i tunings)
  unfolding tick tick_at steer fire flown caught hooked retract hold
  idle_after p = rw (m, lt-ltb id.0 n l, p) refl

pub holding : Holding
holding n c id cid ticks ss s ts i tunings m l =
    let z = get_or tunings hook_hold (pos 0) in
    let after = held_as n c id cid ticks ss s ts i tunings m l in
    record { counts = λ p g. after _ p (held_on cid ticks z g); retracts = λ p g. after _ p (held_past cid ticks z g); lets_go = idle_after n c id cid ticks ss s ts i tunings m l }
