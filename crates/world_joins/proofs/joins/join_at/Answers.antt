use Rattle.world.specs.Calls.{join_at}
use borrow.Author.Rules.{rules}
use Rattle.world_joins.proofs.joins.join_at.Goals as goal

pub returns-then-check_box : goal.returns-then-check_box
unfolding join_at
returns-then-check_box c = simp (← c.new-box_.ensures, ← c.check_box.ensures, c.if-check_box.true)

pub returns-then-slot : goal.returns-then-slot
unfolding join_at
returns-then-slot c = simp (← c.new-box_.ensures, ← c.check_box.ensures, c.if-check_box.false, c.if-slot.true)

pub returns : goal.returns
unfolding join_at
returns c = simp (← c.new-box_.ensures, ← c.check_box.ensures, c.if-check_box.false, c.if-slot.false, c.with_slot.ensures, c.joined.ensures)
