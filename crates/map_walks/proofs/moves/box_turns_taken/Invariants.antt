use mathlib.Core.Path.{◌≡◌, refl, sym, ◌∙◌}
use Prim.Native.Nat.{◌^◌}
use native.Mathlib.Omega.{arith}
use lib.Dec.{le→leb}
use lib.Ieee.{in_float}
use borrow.Author.Rules.{rules}
use Rattle.num_convert.specs.Convert.{i32_to_f32}
use Rattle.map_walks.specs.Move.{box_turns_taken}
use Rattle.map_walks.specs.Way.{turns_taken}
use Rattle.map_walks.proofs.Straight.{in_parts, none_left}
use Rattle.map_walks.proofs.Stuck.{stays_at_rest_lem}
use Rattle.map_walks.proofs.moves.box_turns_taken.Given as goal

abbrev pub invariant-loop-left : goal.invariant-loop-left
invariant-loop-left l = turns_taken l.sides l.tiles l.fraction l.box_ l.left l.b ≡ turns_taken l.sides l.tiles l.fraction l.box_ l.turns l.initial.b

abbrev pub decreases-loop-left : goal.decreases-loop-left
decreases-loop-left l = l.left
