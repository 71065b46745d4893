use mathlib.Core.Path.{◌≡◌, refl, sym, ◌∙◌}
use native.Mathlib.Omega.{arith}
use borrow.Author.Rules.{rules}
use Rattle.map_walks.specs.Way.{turns_taken}
use Rattle.map_walks.proofs.Straight.{in_parts, none_left}
use Rattle.map_walks.proofs.moves.stretches.Given as goal

abbrev pub invariant-loop-left : goal.invariant-loop-left
invariant-loop-left l = turns_taken l.sides l.tiles l.fraction l.box_ l.left l.b ≡ turns_taken l.sides l.tiles l.fraction l.box_ l.turns l.initial.b

abbrev pub decreases-loop-left : goal.decreases-loop-left
decreases-loop-left l = l.left
