use borrow.Author.Rules.{rules}
use Rattle.game_input.specs.Inputs.{hooks}
use Rattle.character_hook.specs.Hooking.{fire}
use Rattle.character_hook.proofs.Unchanged.{not_idle}
use borrow.Enum.Refused.{opened}
use Rattle.character_hook.proofs.hook.Hook.fire_at_target.Goals as goal

pub returns-in_default : goal.returns-in_default
unfolding fire
returns-in_default c = rw (← c.hooks.ensures, c.if-hooks.true) (not_idle _ _ _ (opened c.in_default.in_default-own.keys2))

pub returns-then-hooks : goal.returns-then-hooks
returns-then-hooks c = simp (← c.hooks.ensures, c.if-hooks.true, c.fire.ensures, c.target_dir.ensures)

pub returns : goal.returns
unfolding fire
returns c = simp (← c.hooks.ensures, c.if-hooks.false)
