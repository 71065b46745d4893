use mathlib.Core.Bool.{Bool, true, false}
use mathlib.Core.List.{List}
use mathlib.Core.Logic.{⊎_elim}
use mathlib.Core.Path.{◌≡◌, refl, sym, ap, ◌∙◌}
use Prim.Native.Nat.{ℕ, ◌+◌, ◌-◌, ◌<◌}
use native.Mathlib.Omega.{arith}
use lib.IntN.{ℤ, pos}
use lib.ListN.{set}
use borrow.Author.Rules.{rules}
use Rattle.map_tiles.specs.Box.{on_deadly}
use Rattle.map_tiles.specs.declared.tiles.Sides.{Sides}
use Rattle.character.specs.Tick.{seats, slot_at}
use Rattle.character.specs.declared.Slot.{Slot}
use Rattle.world.specs.Calls.{vacate}
use Rattle.world.specs.Removal.{ids_of, dies, dying, remove_all, listed}
use Rattle.world.specs.declared.World.{World}
use Rattle.world_step.proofs.Listed.{as_i32, ids_more, ids_same, removed_last, Listing, none_listed, listed_now, listing-fits, listing-more, listing-same}
use Rattle.world_step.proofs.removing.remove_dying.Given as goal

module _ (s : Sides) (ts : List ℕ) (ss : List Slot) (w : World) where
  -- who of the first j dies
  abbrev pub up_to : ℕ → List ℕ
  up_to j = ids_of (λ i. dies s ts (slot_at ss i)) j 0

  -- after j turns
  pub record Removing (j : ℕ) (next : World) (ids : List ℤ) (count : ℕ) : Type 0 where
    pub list : Listing (λ i. dies s ts (slot_at ss i)) seats j ids count
    pub world_is : next ≡ remove_all w (up_to j)

abbrev pub invariant-loop-j : goal.invariant-loop-j
invariant-loop-j l = Removing l.sides l.tiles l.slots l.initial.world l.j l.world l.ids l.count

abbrev pub decreases-loop-j : goal.decreases-loop-j
decreases-loop-j l = seats - l.j
