use mathlib.Core.Bool.{false}
use mathlib.Core.Logic.{⊎_elim}
use mathlib.Core.Path.{◌≡◌, refl, ap, ◌∙◌}
use native.Mathlib.Omega.{arith}
use lib.Dec.{leb}
use mir.Facts.{to_z-of_z}
use borrow.Author.Tests.{le-leb, lt-leb}
use Rattle.trial_rule.specs.Calls.{is_steps, is_trial}
use Rattle.trial_runs.proofs.checks.is_trial.Goals.{then-tunings-ge1, else-tunings-ge1}
use Rattle.trial_runs.proofs.checks.is_trial.Goals as goal

pub returns-then-tunings-le-MOST_TUNINGS : goal.returns-then-tunings-le-MOST_TUNINGS
unfolding is_trial
returns-then-tunings-le-MOST_TUNINGS c =
    let few = c.if-tunings-le-MOST_TUNINGS.true in
    rw (le-leb 1 _ few.0, le-leb _ 8 few.1) (c.is_steps.ensures ∙ ap is_steps (to_z-of_z c.ranges.steps))

pub returns-else-tunings-le-MOST_TUNINGS : goal.returns-else-tunings-le-MOST_TUNINGS
unfolding is_trial
returns-else-tunings-le-MOST_TUNINGS c =
    let a = c.args in
    elim c.if-tunings-ge1.branch [
      | then-tunings-ge1 w ↦ let e : leb a.tunings 8 ≡ false = lt-leb a.tunings 8 (⊎_elim (λ p. p.1) (λ p. absurd (omega (arith, p, w.if-tunings-ge1.true))) c.if-tunings-le-MOST_TUNINGS.either) in w.t-4-is ∙ e ∙ rw (le-leb 1 a.tunings w.if-tunings-ge1.true, e) refl
      | else-tunings-ge1 w ↦ let e : leb 1 a.tunings ≡ false = lt-leb 1 a.tunings w.if-tunings-ge1.false in w.t-4-is ∙ e ∙ rw e refl
    ]
