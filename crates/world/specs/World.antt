-- A world of n slots: fresh, and with one of its slots or tunings set. Definitions only.
use Rattle.std.specs.Prelude.{ℕ, ℤ, set, replicate}
use Rattle.game_tuning.specs.Tuning.{fresh_tunings}
use Rattle.character.specs.Slot.{empty_slot}
use Rattle.character.specs.declared.Slot.{Slot}
use Rattle.world.specs.declared.World.{World}

-- all slots absent
unfoldable pub fresh : ℕ → World
fresh n = record { slots = replicate n empty_slot; tunings = fresh_tunings }

abbrev pub with_slot : World → ℕ → Slot → World
with_slot w k s = record { slots = set w.slots k s; tunings = w.tunings }

abbrev pub with_tuning : World → ℕ → ℤ → World
with_tuning w k z = record { slots = w.slots; tunings = set w.tunings k z }
