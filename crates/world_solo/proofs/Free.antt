-- A hook that holds nobody: no release changes it, and with player hooking 0 no step of its seat alone makes it hold anybody. Assumes nothing.
use Prim.Native.Nat.{ℕ}
use mathlib.Core.Bool.{Bool, true, false, true≢false}
use mathlib.Core.List.{List, []}
use mathlib.Core.Path.{◌≡◌, refl, sym, ap}
use Rattle.num_vec2.specs.declared.vec2.{vec2}
use Rattle.map_tiles.specs.declared.tiles.Sides.{Sides}
use Rattle.game_records.specs.declared.PlayerInput.{PlayerInput}
use Rattle.game_tuning.specs.declared.Tuning.{Tuning}
use Rattle.character_hook.specs.Hook.{holds}
use Rattle.character_hook.specs.declared.hook.Hook.{Hook}
use Rattle.character.specs.Character.{spawn, with_hook}
use Rattle.character.specs.Slot.{empty_slot, joined_slot, with_character}
use Rattle.character.specs.Tick.{tick_at}
use Rattle.character.specs.declared.Character.{Character}
use Rattle.character.specs.declared.Slot.{Slot}
use Rattle.character_laws.proofs.Held.{Only, only_holds, tick-only}
use Rattle.character_laws.proofs.Others.{Then}
use Rattle.world.specs.Calls.{released_slot}
use Rattle.world.proofs.Vacated.{other_released}

-- holds nobody
abbrev pub FreeHook : Hook → Type 0
FreeHook h = Only (λ j. ⊥) h

abbrev pub Free : Slot → Type 0
Free x = FreeHook x.character.hook

pub empty_free : Free empty_slot
unfolding spawn
empty_free = tt

pub joined_free : (p : vec2) → Free (joined_slot p)
unfolding spawn
joined_free p = tt

-- nobody lets it go
pub free_released : (x : Slot) (k : ℕ) → Free x → released_slot x k ≡ x
free_released x k f = ap (λ (h : Hook). with_character x (with_hook x.character h)) (other_released x.character.hook k (go (holds x.character.hook k) refl))
  where
    go : (b : Bool) → holds x.character.hook k ≡ b → b ≡ false
    go true e = absurd (only_holds (λ j. ⊥) x.character.hook k f e)
    go false e = refl

-- who ticks among no slots grabs nobody
pub tick_free : (n : ℕ) (c : Character) (id : ℕ) (s : Sides) (ts : List ℕ) (i : PlayerInput) (t : Tuning) → FreeHook c.hook → Then (λ a. FreeHook a.me.hook) (tick_at n c id [] s ts i t)
tick_free n c id s ts i t f = tick-only (λ j. ⊥) [] (λ j e. absurd (true≢false (sym e))) n c id s ts i t f
