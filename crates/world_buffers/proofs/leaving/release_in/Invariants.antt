use mathlib.Core.Path.{◌≡◌}
use Prim.Native.Nat.{◌-◌}
use lib.ListN.{length}
use Rattle.base_turns.specs.Turns.{more}
use Rattle.base_turns.proofs.Loop.{Left, always}
use Rattle.character.specs.Tick.{seats}
use Rattle.world_numbers.specs.Encoding.{world_count}
use Rattle.world_buffers.specs.Leaving.{release_at, release_in}
use Rattle.world_buffers.proofs.leaving.release_in.Given as goal

abbrev pub invariant-loop-j : goal.invariant-loop-j
invariant-loop-j l = (length l.world ≡ world_count) × Left (always (release_at l.id)) seats l.j l.world (more (release_in l.initial.world l.id))

abbrev pub decreases-loop-j : goal.decreases-loop-j
decreases-loop-j l = seats - l.j
