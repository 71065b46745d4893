use borrow.Author.Rules.{rules}
use Rattle.character_motion.proofs.Slowed.{at_none, not_none}
use Rattle.character_motion.specs.Controls.{walk}
use borrow.Enum.Refused.{opened}
use Rattle.character_motion.proofs.controls.walk.Goals as goal

pub returns-in-None : goal.returns-in-None
unfolding walk
returns-in-None c = rw (at_none _ _ _ c.in-None.is, ← c.as_float.ensures, ← c.saturated_add-walked.ensures)

pub returns-in_default : goal.returns-in_default
unfolding walk
returns-in_default c = rw (not_none _ _ _ (opened c.in_default.in_default-own.keys2), ← c.as_float.ensures, ← c.saturated_add-walked.ensures)
