use Prim.Native.Nat.{ℕ, ◌-◌, ◌≤◌}
use mathlib.Core.Path.{◌≡◌, refl, sym, ap, ◌∙◌}
use native.Mathlib.Omega.{arith}
use lib.ListN.{length, take, drop, length-set}
use lib.Seq.{take_all}
use borrow.Author.Rules.{rules}
use Rattle.character.specs.Tick.{seats}
use Rattle.game_tuning.specs.Tuning.{tuning_count}
use Rattle.world_numbers.specs.Decoding.{each_in, seats_of}
use Rattle.world_numbers.proofs.Seats.{next_seat}
use Rattle.world_numbers.proofs.decoding.seats_of.Given as goal

abbrev pub invariant-loop-id : goal.invariant-loop-id
invariant-loop-id l = (l.id ≤ seats) × (length l.slots ≡ seats) × (take l.id l.slots ≡ seats_of l.id (drop tuning_count l.numbers))

abbrev pub decreases-loop-id : goal.decreases-loop-id
decreases-loop-id l = seats - l.id
