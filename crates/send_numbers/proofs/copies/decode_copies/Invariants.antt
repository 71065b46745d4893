use Prim.Native.Nat.{◌-◌, ◌≤◌}
use mathlib.Core.Path.{◌≡◌}
use lib.ListN.{length, take}
use Rattle.character.specs.Tick.{seats}
use Rattle.world_numbers.specs.Decoding.{each_in}
use Rattle.send_numbers.specs.Copies.{copy_count, copy_in}
use Rattle.send_numbers.proofs.copies.decode_copies.Given as goal

abbrev pub invariant-loop-id : goal.invariant-loop-id
invariant-loop-id l = (l.id ≤ seats) × (length l.copies ≡ seats) × (take l.id l.copies ≡ each_in copy_in copy_count l.id l.numbers)

abbrev pub decreases-loop-id : goal.decreases-loop-id
decreases-loop-id l = seats - l.id
