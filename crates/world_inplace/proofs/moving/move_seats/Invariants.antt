use mathlib.Core.Bool.{Bool}
use mathlib.Core.List.{List}
use mathlib.Core.Logic.{⊎_elim}
use mathlib.Core.Path.{◌≡◌, sym, ap, ◌∙◌}
use Prim.Native.Nat.{◌-◌}
use lib.ListN.{length}
use Rattle.base_turns.proofs.Loop.{turn_first}
use Rattle.character.specs.Tick.{seats}
use Rattle.character.specs.declared.Slot.{Slot}
use Rattle.world.specs.Step.{moving_from, move_all}
use Rattle.world_numbers.specs.Encoding.{records_count}
use Rattle.world_inplace.specs.Bodies.{Bodies}
use Rattle.world_inplace.specs.Moves.{Ready}
use Rattle.world_inplace.proofs.Moved.{none_moved, Going, move_on, move_past, move_off, move_end}
use borrow.Author.Rules.{rules}
use Rattle.world_inplace.proofs.moving.move_seats.Given as goal

abbrev pub invariant-loop-id : goal.invariant-loop-id
invariant-loop-id l = (length l.rows ≡ records_count) × ((ss : List Slot) (marks : List Bool) → Ready ss (record { present = l.present; xs = l.initial.xs; ys = l.initial.ys; vxs = l.vxs; vys = l.vys }) l.initial.rows marks → Going l.sides l.tiles l.tuning l.id (move_all seats ss l.sides l.tiles l.tuning) (record { present = l.present; xs = l.xs; ys = l.ys; vxs = l.vxs; vys = l.vys }) l.rows marks)

abbrev pub decreases-loop-id : goal.decreases-loop-id
decreases-loop-id l = seats - l.id
