use Rattle.std.proofs.lemmas.Result.{err_from_is_err_and}
use Rattle.send_alone.specs.Alone.{move_alone}
use Rattle.send_alone.proofs.move_alone.Goals as goal

pub returns-in_err-body : goal.returns-in_err-body
unfolding move_alone
returns-in_err-body c =
    let p = err_from_is_err_and c.from_residual.result c.from_residual.ensures.1 in
    rw (p.1, p.2) (simp (← c.ramped_move.ensures, c.in_err-body.was))

pub returns-in_err-me : goal.returns-in_err-me
unfolding move_alone
returns-in_err-me c =
    let p = err_from_is_err_and c.from_residual-in_err-me.result c.from_residual-in_err-me.ensures.1 in
    rw (p.1, p.2) (simp (← c.ramped_move.ensures, c.in_ok-body.was, ← c.rest_alone.ensures, c.in_err-me.was))

pub returns : goal.returns
unfolding move_alone
returns c = simp (← c.ramped_move.ensures, c.in_ok-body.was, ← c.rest_alone.ensures, c.in_ok-me.was)
