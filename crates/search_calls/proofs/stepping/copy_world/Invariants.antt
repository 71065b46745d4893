use Prim.Native.Nat.{ℕ, ◌-◌, ◌≤◌, ◌<◌}
use mathlib.Core.Path.{◌≡◌}
use lib.ListN.{length, take}
use Rattle.num_convert.specs.Casts.{IsI32}
use Rattle.game_records.specs.Numbers.{number_at}
use Rattle.search_calls.proofs.stepping.copy_world.Given as goal

abbrev pub invariant-loop-i : goal.invariant-loop-i
invariant-loop-i l = (l.i ≤ length l.world) × (l.i-end ≡ length l.world) × (length l.next ≡ length l.world) × (take l.i l.next ≡ take l.i l.world) × ((k : ℕ) → k < l.i → IsI32 (number_at l.world k))

abbrev pub decreases-loop-i : goal.decreases-loop-i
decreases-loop-i l = length l.world - l.i
