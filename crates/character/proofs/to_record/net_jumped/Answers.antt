use Rattle.character.specs.Records.{net_jumped}
use Rattle.character.proofs.to_record.net_jumped.Goals as goal

pub returns-then-c-2 : goal.returns-then-c-2
unfolding net_jumped
returns-then-c-2 c = simp (c.if-c.true, c.if-c-2.true)

pub returns-else-c-2 : goal.returns-else-c-2
unfolding net_jumped
returns-else-c-2 c = simp (c.if-c.true, c.if-c-2.false)

pub returns-then-c-3 : goal.returns-then-c-3
unfolding net_jumped
returns-then-c-3 c = simp (c.if-c.false, c.if-c-3.true)

pub returns-else-c-3 : goal.returns-else-c-3
unfolding net_jumped
returns-else-c-3 c = simp (c.if-c.false, c.if-c-3.false)
