use mathlib.Core.Bool.{true, false, true≢false}
use mathlib.Core.Path.{◌≡◌, refl, sym, ◌∙◌}
use lib.IntN.{ℤ, pos, negsuc}
use lib.Signed.{le_z}
use mir.Facts.{to_z-of_z}
use borrow.Author.Tests.{le-leb}
use Rattle.trial_rule.specs.Calls.{is_steps}
use borrow.Author.Rules.{rules}
use Rattle.trial_runs.proofs.checks.is_steps.Goals as goal

upper : (z : ℤ) → le_z (pos 0) z ≡ true → le_z z (pos 3000) ≡ is_steps z
upper (pos k) e = refl
upper (negsuc k) e = absurd (true≢false (sym e))

lower : (z : ℤ) → le_z (pos 0) z ≡ false → le_z (pos 0) z ≡ is_steps z
lower (pos k) e = absurd (true≢false (sym (le-leb 0 k (search rules)) ∙ e))
lower (negsuc k) e = refl

pub returns-then-steps-ge0 : goal.returns-then-steps-ge0
returns-then-steps-ge0 c = rw (to_z-of_z c.ranges.steps) (upper c.args.steps (rw (to_z-of_z c.ranges.steps) at c.if-steps-ge0.true))

pub returns-else-steps-ge0 : goal.returns-else-steps-ge0
returns-else-steps-ge0 c = rw (to_z-of_z c.ranges.steps) (lower c.args.steps (rw (to_z-of_z c.ranges.steps) at c.if-steps-ge0.false))
