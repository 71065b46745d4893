use Rattle.std.proofs.Common.{◌-◌}
use Rattle.base_turns.specs.Turns.{more, fold}
use Rattle.base_turns.proofs.Loop.{Left, always}
use Rattle.num_ramp.specs.Power.{root_turn}
use Rattle.num_ramp.proofs.power.roots.Given as goal

abbrev pub invariant-loop-i : goal.invariant-loop-i
invariant-loop-i l = Left (always (root_turn l.k)) 16 l.i (l.p, l.r) (more (fold (root_turn l.k) 16 0 (l.from, l.c)))

abbrev pub decreases-loop-i : goal.decreases-loop-i
decreases-loop-i l = 16 - l.i
