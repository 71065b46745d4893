use Rattle.map_walks.specs.Move.{box_turn}
use borrow.Author.Rules.{rules}
use Rattle.map_walks.proofs.moves.box_turn.Goals as goal

pub returns-then-check_box : goal.returns-then-check_box
unfolding box_turn
returns-then-check_box c = simp (← c.mul.ensures, ← c.add-new_pos.ensures, ← c.check_box.ensures, c.if-check_box.true, ← c.blocked.ensures)

pub returns : goal.returns
unfolding box_turn
returns c = simp (← c.mul.ensures, ← c.add-new_pos.ensures, ← c.check_box.ensures, c.if-check_box.false)
