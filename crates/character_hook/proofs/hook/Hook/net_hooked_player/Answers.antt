use mathlib.Core.Path.{◌∙◌}
use mir.Facts.{to_z-of_z}
use mir.Syntax.{w32}
use borrow.Author.Rules.{rules}
use Rattle.character_hook.proofs.Variants.{not_grabbed}
use Rattle.character_hook.specs.Hook.{net_hooked_player}
use borrow.Enum.Refused.{opened}
use Rattle.character_hook.proofs.hook.Hook.net_hooked_player.Goals as goal

pub returns-in_default : goal.returns-in_default
unfolding net_hooked_player
returns-in_default c = rw (not_grabbed _ _ _ (opened c.in_default.in_default-own.keys2))

pub returns : goal.returns
unfolding net_hooked_player
returns c = rw c.in-Grabbed.is (to_z-of_z {w = w32} {z = c.cast_signed.result} (record { sfits = c.cast_signed.type_inv }) ∙ c.cast_signed.ensures)
