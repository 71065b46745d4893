use borrow.Author.Rules.{rules}
use Rattle.character_hook.proofs.Variants.{not_flying}
use Rattle.character_hook.specs.Hook.{net_dir}
use borrow.Enum.Refused.{opened}
use Rattle.character_hook.proofs.hook.Hook.net_dir.Goals as goal

pub returns-in-Flying : goal.returns-in-Flying
unfolding net_dir
returns-in-Flying c = simp c.in-Flying.is

pub returns-in_default : goal.returns-in_default
unfolding net_dir
returns-in_default c = rw (not_flying _ _ _ (opened c.in_default.in_default-own.keys2), ← c.new.ensures)
