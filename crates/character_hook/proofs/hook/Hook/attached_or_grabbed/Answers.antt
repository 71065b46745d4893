use mathlib.Core.Path.{◌≡◌, ◌∙◌, ap}
use mir.Facts.{to_z-of_z}
use mir.Syntax.{w32}
use borrow.Author.Rules.{rules}
use Rattle.num_convert.specs.Casts.{cast_unsigned}
use Rattle.character_hook.proofs.States.{by_bits, somebody}
use Rattle.character_hook.specs.Hook.{attached_or_grabbed}
use Rattle.character_hook.proofs.hook.Hook.attached_or_grabbed.Goals as goal

pub returns-then-hooked_player-eqminus1 : goal.returns-then-hooked_player-eqminus1
unfolding attached_or_grabbed
returns-then-hooked_player-eqminus1 c = simp (by_bits _ _ c.ranges.hooked_player c.if-hooked_player-eqminus1.true)

pub returns-else-hooked_player-eqminus1 : goal.returns-else-hooked_player-eqminus1
unfolding attached_or_grabbed
returns-else-hooked_player-eqminus1 c =
    let s = c in
    let a : c.cast_unsigned.result ≡ cast_unsigned s.args.hooked_player = c.cast_unsigned.ensures ∙ ap cast_unsigned (to_z-of_z {w = w32} s.ranges.hooked_player) in
    let b : c.cast_unsigned-else-hooked_player-eqminus1.result ≡ cast_unsigned s.args.hook_tick.0 = c.cast_unsigned-else-hooked_player-eqminus1.ensures ∙ ap cast_unsigned (to_z-of_z {w = w32} (search rules)) in
    rw (somebody s.args.hooked_player c.if-hooked_player-eqminus1.false, a, b)
