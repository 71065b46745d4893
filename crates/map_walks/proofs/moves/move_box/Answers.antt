use mathlib.Core.Path.{sym, ◌∙◌, subst}
use lib.Dec.{T}
use Rattle.map_walks.specs.Move.{move_box}
use Rattle.map_walks.proofs.moves.move_box.Goals as goal

pub walk_box-requires : goal.walk_box-requires
walk_box-requires c = subst T (sym c.if-is_map.true ∙ c.is_map.ensures) tt

pub returns-then-is_map : goal.returns-then-is_map
unfolding move_box
returns-then-is_map c = simp (← c.is_map.ensures, c.if-is_map.true, ← c.walk_box.ensures)

pub returns : goal.returns
unfolding move_box
returns c = simp (← c.is_map.ensures, c.if-is_map.false)
