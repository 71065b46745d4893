use mathlib.Core.Path.{◌≡◌, refl, sym, ◌∙◌}
use native.Mathlib.Omega.{arith}
use borrow.Author.Rules.{rules}
use Rattle.map_walks.specs.Way.{turns_taken}
use Rattle.map_walks.proofs.Straight.{in_parts, none_left}
use Rattle.map_walks.proofs.moves.stretches.Goals as goal

pub loop-left-init : goal.loop-left-init
loop-left-init c = refl

pub overflow_sub-left : goal.overflow_sub-left
overflow_sub-left c = omega (arith, c.min-n.ensures)

pub loop-left-smaller : goal.loop-left-smaller
loop-left-smaller c = omega (arith, c.min-n.ensures)

pub loop-left-preserved : goal.loop-left-preserved
loop-left-preserved c = sym (in_parts _ _ _ _ _ _ _ (omega (arith, c.min-n.ensures)) _ c.stretch-b.ensures) ∙ c.loop-left.invariant

pub returns : goal.returns
returns c = sym (none_left _ _ _ _ _ _ c.loop-left-test.false) ∙ c.loop-left.invariant
