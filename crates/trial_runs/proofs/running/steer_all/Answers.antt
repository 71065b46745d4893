use mathlib.Core.Path.{sym, ap, ◌∙◌}
use native.Mathlib.Omega.{arith}
use Rattle.base_turns.specs.Turns.{more}
use Rattle.base_turns.proofs.Loop.{fold_first, fold_end, turn_on}
use Rattle.trial_runs.specs.InPlace.{steered_all}
use Rattle.trial_runs.proofs.running.steer_all.Goals as goal

pub loop-j-init : goal.loop-j-init
unfolding steered_all
loop-j-init c = (c.requires.0, omega arith, fold_first)

pub loop-j-preserved : goal.loop-j-preserved
loop-j-preserved c =
    let v = c.steer_seat in
    let l = c.loop-j in
    let h = c.loop-j-test.true in
    (v.auto.world ∙ l.invariant.0, omega arith, turn_on l.invariant.2 h (ap more (sym v.ensures)))

pub returns : goal.returns
returns c = sym (fold_end c.loop-j.invariant.2 c.loop-j-test.false)
