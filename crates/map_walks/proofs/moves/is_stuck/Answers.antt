use borrow.Author.Rules.{rules}
use Rattle.map_walks.specs.Way.{is_stuck}
use Rattle.map_walks.proofs.moves.is_stuck.Goals as goal

pub returns-then-check_box-2 : goal.returns-then-check_box-2
unfolding is_stuck
returns-then-check_box-2 c = simp (← c.mul.ensures, ← c.add-new_pos.ensures, ← c.check_box.ensures, c.if-check_box.true, ← c.new.ensures, ← c.check_box-then-check_box.ensures, c.if-check_box-2.true, ← c.new-then-check_box-2.ensures, ← c.check_box-then-check_box-2.ensures)

pub returns-else-check_box-2 : goal.returns-else-check_box-2
unfolding is_stuck
returns-else-check_box-2 c = simp (← c.mul.ensures, ← c.add-new_pos.ensures, ← c.check_box.ensures, c.if-check_box.true, ← c.new.ensures, ← c.check_box-then-check_box.ensures, c.if-check_box-2.false)

pub returns-else-check_box : goal.returns-else-check_box
unfolding is_stuck
returns-else-check_box c = simp (← c.mul.ensures, ← c.add-new_pos.ensures, ← c.check_box.ensures, c.if-check_box.false)
