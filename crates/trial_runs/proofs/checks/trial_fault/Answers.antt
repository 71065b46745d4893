use mathlib.Core.Path.{◌≡◌, refl, sym, ap, ◌∙◌}
use mir.Facts.{to_z-of_z}
use Rattle.trial_rule.specs.Calls.{tunings_in, is_trial, trial_fault}
use Rattle.trial_runs.proofs.checks.trial_fault.Goals as goal

pub returns-then-not-is_trial : goal.returns-then-not-is_trial
unfolding trial_fault
returns-then-not-is_trial c =
    let a = c.args in
    let fits : c.is_trial.result ≡ is_trial (tunings_in a.tunings.now) a.steps = c.is_trial.ensures ∙ ap (is_trial (tunings_in a.tunings.now)) (to_z-of_z c.ranges.steps) in
    rw (← fits, c.if-not-is_trial.true) refl

pub returns-then-not-have_holds : goal.returns-then-not-have_holds
unfolding trial_fault
returns-then-not-have_holds c =
    let a = c.args in
    let fits : c.is_trial.result ≡ is_trial (tunings_in a.tunings.now) a.steps = c.is_trial.ensures ∙ ap (is_trial (tunings_in a.tunings.now)) (to_z-of_z c.ranges.steps) in
    rw (← fits, c.if-not-is_trial.false, sym c.have_holds.ensures ∙ c.if-not-have_holds.true) refl

pub returns : goal.returns
unfolding trial_fault
returns c =
    let a = c.args in
    let fits : c.is_trial.result ≡ is_trial (tunings_in a.tunings.now) a.steps = c.is_trial.ensures ∙ ap (is_trial (tunings_in a.tunings.now)) (to_z-of_z c.ranges.steps) in
    rw (← fits, c.if-not-is_trial.false, sym c.have_holds.ensures ∙ c.if-not-have_holds.false) refl
