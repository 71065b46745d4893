use Rattle.std.proofs.Common.{◌-◌}
use Rattle.num_convert.specs.Number.{c1}
use Rattle.base_turns.specs.Turns.{more, fold}
use Rattle.base_turns.proofs.Loop.{Left, always}
use Rattle.num_ramp.specs.Power.{square_turn}
use Rattle.num_ramp.proofs.power.squares.Given as goal

abbrev pub invariant-loop-i : goal.invariant-loop-i
invariant-loop-i l = Left (always (square_turn l.k)) 8 l.i (l.p, l.q) (more (fold (square_turn l.k) 8 0 (c1, l.c)))

abbrev pub decreases-loop-i : goal.decreases-loop-i
decreases-loop-i l = 8 - l.i
