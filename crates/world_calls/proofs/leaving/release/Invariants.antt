use mathlib.Core.List.{List}
use mathlib.Core.Path.{◌≡◌, refl, ap, ◌∙◌}
use Prim.Native.Nat.{ℕ, ◌+◌, ◌-◌, ◌≤◌, ◌<◌}
use native.Mathlib.Numerals.{add-one}
use native.Mathlib.Omega.{arith}
use lib.ListN.{length, length-map}
use borrow.Author.Rules.{rules}
use Rattle.base_turns.proofs.Mapped.{replaced, replaced_on, replaced_end}
use Rattle.character.specs.Tick.{seats, slot_at, nowhere}
use Rattle.character.specs.declared.Slot.{Slot}
use Rattle.world.specs.Calls.{released_slot, release}
use Rattle.world.specs.World.{with_slot}
use Rattle.world.specs.declared.World.{World}
use Rattle.world_calls.proofs.leaving.release.Given as goal

-- the hooks of the seats below j are released
abbrev pub up_to : World → ℕ → ℕ → World
up_to w k j = record { slots = replaced (λ x. released_slot x k) j w.slots; tunings = w.tunings }

abbrev pub invariant-loop-j : goal.invariant-loop-j
invariant-loop-j l = (l.world ≡ up_to l.initial.world l.at l.j) × (length l.initial.world.slots ≡ seats)

abbrev pub decreases-loop-j : goal.decreases-loop-j
decreases-loop-j l = seats - l.j
