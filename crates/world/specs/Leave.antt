-- What an accepted leave does, on any world. Definitions only; proofs/Leave.antt proves it.
use Rattle.std.specs.Prelude.{ℕ, ◌≡◌, ℤ, length}
use Rattle.character_hook.specs.declared.hook.CharacterId.{CharacterId}
use Rattle.character_hook.specs.declared.hook.Hook.{Hook}
use Rattle.character_hook.specs.declared.hook.Hook.TheVariants.{Retracted, Grabbed}
use Rattle.character.specs.Character.{with_hook}
use Rattle.character.specs.Slot.{empty_slot, with_character}
use Rattle.character.specs.Tick.{slot_at}
use Rattle.world.specs.Calls.{place_of, leave}
use Rattle.world.specs.declared.World.{World}

-- h holds k
pub record Holds (h : Hook) (k : ℕ) : Type 0 where
  pub who : CharacterId
  pub ticks : ℕ
  pub grabbed : h ≡ Grabbed who ticks
  pub is : who.0 ≡ k

-- the world w after k has left, as v: the slot of k is as every fresh one; of everybody else a hook that held k is Retracted; nothing else has changed
pub record Vacated (k : ℕ) (w v : World) : Type 0 where
  pub own : slot_at v.slots k ≡ empty_slot
  pub holders : (j : ℕ) → (j ≡ k → ⊥) → let x = slot_at w.slots j in Holds x.character.hook k → slot_at v.slots j ≡ with_character x (with_hook x.character Retracted)
  pub others : (j : ℕ) → (j ≡ k → ⊥) → let x = slot_at w.slots j in (Holds x.character.hook k → ⊥) → slot_at v.slots j ≡ x
  pub tunings : v.tunings ≡ w.tunings
  pub size : length v.slots ≡ length w.slots

-- in every world of n slots
abbrev pub LeaveReleases : ℕ → Type 0
LeaveReleases n = (w : World) (id : ℤ) → length w.slots ≡ n → (leave n w id).number ≡ 0 → Vacated (place_of n id) w (leave n w id).world
