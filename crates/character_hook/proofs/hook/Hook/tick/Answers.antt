use borrow.Author.Rules.{rules}
use Rattle.character_hook.proofs.Variants.{not_grabbed}
use Rattle.character_hook.specs.Hook.{tick_of}
use borrow.Enum.Refused.{opened}
use Rattle.character_hook.proofs.hook.Hook.tick.Goals as goal

pub returns-in-Grabbed : goal.returns-in-Grabbed
unfolding tick_of
returns-in-Grabbed c = simp c.in-Grabbed.is

pub returns-in_default : goal.returns-in_default
unfolding tick_of
returns-in_default c = rw (not_grabbed _ _ _ (opened c.in_default.in_default-own.keys2))
