use borrow.Author.Rules.{rules}
use Rattle.character_hook.specs.Hooking.{fly}
use Rattle.character_hook.proofs.hooking.fly.Goals as goal

pub returns-then-distance-tuning : goal.returns-then-distance-tuning
unfolding fly
returns-then-distance-tuning c = simp (← c.mul.ensures, ← c.add-new_pos.ensures, ← c.distance.ensures, c.if-distance-tuning.true, ← c.sub.ensures, ← c.normalize.ensures, ← c.mul-then-distance-tuning.ensures, ← c.add-end.ensures)

pub returns : goal.returns
unfolding fly
returns c = simp (← c.mul.ensures, ← c.add-new_pos.ensures, ← c.distance.ensures, c.if-distance-tuning.false)
