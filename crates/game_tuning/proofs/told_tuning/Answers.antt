use mathlib.Core.Path.{◌≡◌, ◌∙◌, ap, subst, sym}
use Prim.Native.Nat.{ℕ, ◌<◌, ◌^◌}
use native.Mathlib.Nat.{lt_of_le_of_lt}
use lib.Dec.{lit<}
use lib.IntN.{ℤ, pos}
use mir.Facts.{to_z_pos, to_z-of_z}
use mir.Syntax.{w32}
use borrow.Author.Tests.{ne_eqb}
use Rattle.game_tuning.specs.Tuning.{hold_of, told_tuning}
use Rattle.game_tuning.proofs.Hold.{hold_most}
use Rattle.game_tuning.proofs.told_tuning.Goals as goal

small : (n : ℕ) (z : ℤ) → n ≡ hold_of z → n < 2 ^ 31
small n z e = subst (λ (m : ℕ). m < 2 ^ 31) (sym e) (lt_of_le_of_lt (hold_most z) (lit< tt))

pub overflow_cast-result : goal.overflow_cast-result
overflow_cast-result c = record { sfits = small _ _ c.hold_of.ensures }

pub returns-then-index-eq-HOOK_HOLD : goal.returns-then-index-eq-HOOK_HOLD
unfolding told_tuning
returns-then-index-eq-HOOK_HOLD c = rw c.if-index-eq-HOOK_HOLD.true (to_z_pos w32 (small _ _ c.hold_of.ensures) ∙ ap pos (c.hold_of.ensures ∙ ap hold_of (to_z-of_z c.ranges.value)))

pub returns-else-index-eq-HOOK_HOLD : goal.returns-else-index-eq-HOOK_HOLD
unfolding told_tuning
returns-else-index-eq-HOOK_HOLD c = rw (ne_eqb _ _ c.if-index-eq-HOOK_HOLD.false) (to_z-of_z c.ranges.value)
