use mathlib.Core.Path.{◌≡◌, refl, sym, ◌∙◌}
use Prim.Native.Nat.{◌^◌}
use native.Mathlib.Omega.{arith}
use lib.Dec.{le→leb}
use lib.Ieee.{in_float}
use borrow.Author.Rules.{rules}
use Rattle.num_convert.specs.Convert.{i32_to_f32}
use Rattle.map_walks.specs.Move.{box_turns_taken}
use Rattle.map_walks.specs.Way.{turns_taken}
use Rattle.map_walks.proofs.Straight.{in_parts, none_left}
use Rattle.map_walks.proofs.Stuck.{stays_at_rest_lem}
use Rattle.map_walks.proofs.moves.box_turns_taken.Goals as goal

pub int_to_float-fraction : goal.int_to_float-fraction
unfolding in_float
int_to_float-fraction c = le→leb c.args.turns (2 ^ 24) (omega arith)

pub loop-left-init : goal.loop-left-init
loop-left-init c = refl

pub returns-then-stays_at_rest : goal.returns-then-stays_at_rest
unfolding box_turns_taken turns_taken i32_to_f32
returns-then-stays_at_rest c = c.at_rest.ensures ∙ sym (stays_at_rest_lem _ _ _ _ c.loop-left.left _ c.loop-left-test.true (sym c.stays_at_rest.ensures ∙ c.if-stays_at_rest.true)) ∙ c.loop-left.invariant

pub overflow_sub-left : goal.overflow_sub-left
overflow_sub-left c = omega (arith, c.min-n.ensures)

pub loop-left-smaller : goal.loop-left-smaller
loop-left-smaller c = omega (arith, c.min-n.ensures)

pub loop-left-preserved : goal.loop-left-preserved
loop-left-preserved c = sym (in_parts _ _ _ _ _ _ _ (omega (arith, c.min-n.ensures)) _ c.long_stretch-b.ensures) ∙ c.loop-left.invariant

pub returns : goal.returns
unfolding box_turns_taken turns_taken i32_to_f32
returns c = sym (none_left _ _ _ _ _ _ c.loop-left-test.false) ∙ c.loop-left.invariant
