use Prim.Native.Nat.{◌-◌}
use Rattle.base_turns.specs.Turns.{fold, more}
use Rattle.base_turns.proofs.Loop.{Left, always}
use Rattle.character.specs.Tick.{seats}
use Rattle.send_alone.specs.Alone.{alone_turn}
use Rattle.send_calls.proofs.copies.step_copies.Given as goal

abbrev pub invariant-loop-k : goal.invariant-loop-k
invariant-loop-k l = Left (always (alone_turn l.sides l.tiles l.tuning)) seats l.k l.all (more (fold (alone_turn l.sides l.tiles l.tuning) seats 0 l.initial.all))

abbrev pub decreases-loop-k : goal.decreases-loop-k
decreases-loop-k l = seats - l.k
