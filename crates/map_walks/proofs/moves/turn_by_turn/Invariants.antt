use mathlib.Core.Path.{sym, ap}
use Prim.Native.Nat.{◌-◌}
use native.Mathlib.Omega.{arith}
use borrow.Author.Rules.{rules}
use Rattle.base_turns.specs.Turns.{more, fold}
use Rattle.base_turns.proofs.Loop.{Left, always, fold_first, fold_end, turn_on}
use Rattle.map_walks.specs.Move.{box_turn}
use Rattle.map_walks.specs.Way.{turns_taken}
use Rattle.map_walks.proofs.moves.turn_by_turn.Given as goal

abbrev pub invariant-loop : goal.invariant-loop
invariant-loop l = Left (always (λ i. box_turn l.sides l.tiles l.fraction l.box_)) l.turns l.counter l.b (more (fold (λ i. box_turn l.sides l.tiles l.fraction l.box_) l.turns 0 l.initial.b))

abbrev pub decreases-loop : goal.decreases-loop
decreases-loop l = l.turns - l.counter
