use mathlib.Core.Path.{sym, ap}
use Prim.Native.Nat.{◌-◌}
use native.Mathlib.Omega.{arith}
use borrow.Author.Rules.{rules}
use Rattle.base_turns.specs.Turns.{more, fold}
use Rattle.base_turns.proofs.Loop.{Left, always, fold_first, fold_end, turn_on}
use Rattle.map_walks.specs.Move.{box_turn}
use Rattle.map_walks.specs.Way.{turns_taken}
use Rattle.map_walks.proofs.moves.turn_by_turn.Goals as goal

pub loop-init : goal.loop-init
loop-init c = fold_first

pub overflow_step : goal.overflow_step
overflow_step c = omega arith

pub loop-smaller : goal.loop-smaller
loop-smaller c = omega arith

pub loop-preserved : goal.loop-preserved
loop-preserved c = turn_on c.loop.invariant c.loop-test.true (ap more (sym c.box_turn-b.ensures))

pub returns : goal.returns
unfolding turns_taken
returns c = sym (fold_end c.loop.invariant c.loop-test.false)
