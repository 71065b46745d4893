use Prim.Native.Nat.{◌*◌, ◌-◌, ◌≤◌}
use mathlib.Core.Path.{◌≡◌}
use lib.ListN.{length, take}
use Rattle.character.specs.Tick.{seats}
use Rattle.world_numbers.specs.Encoding.{each}
use Rattle.send_numbers.specs.Copies.{copy_count, sender_count, copy_numbers}
use Rattle.send_numbers.proofs.copies.encode_copies.Given as goal

abbrev pub invariant-loop-i : goal.invariant-loop-i
invariant-loop-i l = (l.i ≤ seats) × (length l.numbers ≡ sender_count) × (take (copy_count * l.i) l.numbers ≡ each copy_numbers (take l.i l.copies))

abbrev pub decreases-loop-i : goal.decreases-loop-i
decreases-loop-i l = seats - l.i
