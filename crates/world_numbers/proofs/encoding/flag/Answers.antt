use mathlib.Core.Path.{refl}
use Rattle.world_numbers.proofs.encoding.flag.Goals as goal

pub returns-then-set : goal.returns-then-set
returns-then-set c = rw c.if-set.true refl

pub returns-else-set : goal.returns-else-set
returns-else-set c = rw c.if-set.false refl
