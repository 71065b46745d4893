use Rattle.std.proofs.lemmas.Result.{err_from_is_err_and}
use Rattle.world.specs.Step.{step_on}
use Rattle.world_step.proofs.steps.step_on.Goals as goal

pub returns-in_err-moved : goal.returns-in_err-moved
unfolding step_on
returns-in_err-moved c =
    let p = err_from_is_err_and c.from_residual.result c.from_residual.ensures.1 in
    rw (p.1, p.2) (simp (← c.tuning_of.ensures, c.move_ticked.ensures, c.in_err-moved.was))

pub returns : goal.returns
unfolding step_on
returns c =
    let d = c.remove_dying-removed.ensures in
    simp (← c.tuning_of.ensures, c.move_ticked.ensures, c.in_ok-moved.was, d.0, d.1)
