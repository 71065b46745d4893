use Prim.Native.Nat.{◌-◌}
use Rattle.character.specs.Tick.{seats}
use Rattle.send_calls.proofs.Messages.{Sends}
use Rattle.send_calls.proofs.sending.send_messages.Given as goal

abbrev pub invariant-loop-k : goal.invariant-loop-k
invariant-loop-k l = Sends l.slots l.records l.initial.all l.k l.all l.items l.count

abbrev pub decreases-loop-k : goal.decreases-loop-k
decreases-loop-k l = seats - l.k
