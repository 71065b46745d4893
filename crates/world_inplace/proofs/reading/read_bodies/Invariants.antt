use mathlib.Core.Path.{sym, subst}
use Prim.Native.Nat.{◌-◌, ◌≤◌}
use native.Mathlib.Omega.{arith}
use lib.ListN.{drop}
use Rattle.game_tuning.specs.Tuning.{tuning_count}
use Rattle.character.specs.Tick.{seats}
use Rattle.character.specs.declared.Slot.{Slot}
use Rattle.world_numbers.specs.Decoding.{seats_of, decoding}
use Rattle.world_numbers.proofs.Seats.{seat_is}
use Rattle.world_inplace.specs.Bodies.{Sized, Embodied, BodiesOf}
use Rattle.world_inplace.proofs.Read.{sized_set, bodies_more}
use borrow.Author.Rules.{rules}
use Rattle.world_inplace.proofs.reading.read_bodies.Given as goal

abbrev pub invariant-loop-id : goal.invariant-loop-id
invariant-loop-id l = (l.id ≤ seats) × Sized (record { present = l.present; xs = l.xs; ys = l.ys; vxs = l.vxs; vys = l.vys }) × BodiesOf l.id (seats_of seats (drop tuning_count l.numbers)) (record { present = l.present; xs = l.xs; ys = l.ys; vxs = l.vxs; vys = l.vys })

abbrev pub decreases-loop-id : goal.decreases-loop-id
decreases-loop-id l = seats - l.id
