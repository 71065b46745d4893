use borrow.Author.Rules.{rules}
use Rattle.map_walks.specs.Way.{stays_at_rest}
use Rattle.map_walks.proofs.moves.stays_at_rest.Goals as goal

pub returns-then-is_stuck : goal.returns-then-is_stuck
unfolding stays_at_rest
returns-then-is_stuck c = simp (c.if-vel.true, c.if-vel-2.true, ← c.is_stuck.ensures, c.if-is_stuck.true, ← c.at_rest.ensures, ← c.is_stuck-then-is_stuck.ensures)

pub returns-else-is_stuck : goal.returns-else-is_stuck
unfolding stays_at_rest
returns-else-is_stuck c = simp (c.if-vel.true, c.if-vel-2.true, ← c.is_stuck.ensures, c.if-is_stuck.false)

pub returns-else-vel-2 : goal.returns-else-vel-2
unfolding stays_at_rest
returns-else-vel-2 c = simp (c.if-vel.true, c.if-vel-2.false)

pub returns-else-vel : goal.returns-else-vel
unfolding stays_at_rest
returns-else-vel c = simp c.if-vel.false
