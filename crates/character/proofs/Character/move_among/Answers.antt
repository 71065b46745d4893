use Rattle.std.proofs.lemmas.Result.{err_from_is_err_and}
use Rattle.character.specs.Walk.{move_at}
use Rattle.character.proofs.Character.move_among.Goals as goal

pub returns-in_err-body : goal.returns-in_err-body
unfolding move_at
returns-in_err-body c = λ ss places.
    let p = err_from_is_err_and c.from_residual.result c.from_residual.ensures.1 in
    rw (p.1, p.2) (simp (← c.ramped_move.ensures, c.in_err-body.was))

pub returns-in_err-self : goal.returns-in_err-self
unfolding move_at
returns-in_err-self c = λ ss places.
    let p = err_from_is_err_and c.from_residual-in_err-self.result c.from_residual-in_err-self.ensures.1 in
    rw (p.1, p.2) (simp (← c.ramped_move.ensures, c.in_ok-body.was, ← c.player_walk.ensures ss places, c.in_err-self.was))

pub returns : goal.returns
unfolding move_at
returns c = λ ss places. simp (← c.ramped_move.ensures, c.in_ok-body.was, ← c.player_walk.ensures ss places, c.in_ok-self.was)
