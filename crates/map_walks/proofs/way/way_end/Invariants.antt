use mathlib.Core.Path.{sym, ap}
use Prim.Native.Nat.{◌-◌}
use native.Mathlib.Omega.{arith}
use borrow.Author.Rules.{rules}
use Rattle.base_turns.specs.Turns.{more, fold}
use Rattle.base_turns.proofs.Loop.{Left, always, fold_first, fold_end, turn_on}
use Rattle.num_vec2.specs.Vec2.{vadd}
use Rattle.map_walks.specs.Way.{way_end}
use Rattle.map_walks.proofs.way.way_end.Given as goal

abbrev pub invariant-loop : goal.invariant-loop
invariant-loop l = Left (always (λ j q. vadd q l.step)) l.turns l.counter l.at (more (fold (λ j q. vadd q l.step) l.turns 0 l.initial.at))

abbrev pub decreases-loop : goal.decreases-loop
decreases-loop l = l.turns - l.counter
