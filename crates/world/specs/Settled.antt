-- What every world is that calls can reach, whatever player collision is. Definitions only; proofs/Settled.antt proves it.
use Rattle.std.specs.Prelude.{ℕ, ◌<◌, true, false, List, ◌≡◌, length}
use Rattle.map_tiles.specs.declared.tiles.Sides.{Sides}
use Rattle.world.specs.declared.call.Call.{Call}
use Rattle.character.specs.Slot.{empty_slot}
use Rattle.character.specs.Tick.{slot_at}
use Rattle.character_laws.specs.Representable.{Representable}
use Rattle.world.specs.World.{fresh}
use Rattle.game_tuning.specs.Tuning.{tuning_count}
use Rattle.world.specs.Run.{after}
use Rattle.world.specs.declared.World.{World}

-- n slots and all tunings; who is present is as a record gives it back, and where nobody is the slot is as every fresh one
pub record Settled (n : ℕ) (w : World) : Type 0 where
  pub seats : length w.slots ≡ n
  pub tunings : length w.tunings ≡ tuning_count
  pub representable : (k : ℕ) → k < n → (slot_at w.slots k).present ≡ true → Representable (slot_at w.slots k).character
  pub empty : (k : ℕ) → k < n → (slot_at w.slots k).present ≡ false → slot_at w.slots k ≡ empty_slot

-- after every list of calls from a fresh world of n slots, whatever the map
abbrev pub AfterSettled : ℕ → Type 0
AfterSettled n = (s : Sides) (ts : List ℕ) (cs : List Call) → Settled n (after n s ts (fresh n) cs)
