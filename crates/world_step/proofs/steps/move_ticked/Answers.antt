use Rattle.std.proofs.lemmas.Result.{err_from_is_err_and}
use Rattle.world_step.proofs.steps.move_ticked.Goals as goal

pub returns-in_err-ticked : goal.returns-in_err-ticked
returns-in_err-ticked c =
    let p = err_from_is_err_and c.from_residual.result c.from_residual.ensures.1 in
    rw (p.1, p.2) (simp (c.tick_all.ensures, c.in_err-ticked.was))

pub returns : goal.returns
returns c = simp (c.tick_all.ensures, c.in_ok-ticked.was, c.move_all.ensures)
