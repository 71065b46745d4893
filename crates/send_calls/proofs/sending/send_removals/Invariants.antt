use Prim.Native.Nat.{◌-◌}
use Rattle.send_calls.proofs.Removals.{Drops}
use Rattle.send_calls.proofs.sending.send_removals.Given as goal

abbrev pub invariant-loop-i : goal.invariant-loop-i
invariant-loop-i l =
    Drops (record { count = l.i-end; ids = l.ids }) (record { copies = l.initial.copies; count = l.initial.count; items = l.initial.items }) l.i l.copies l.items l.count

abbrev pub decreases-loop-i : goal.decreases-loop-i
decreases-loop-i l = l.i-end - l.i
