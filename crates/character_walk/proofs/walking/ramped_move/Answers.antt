use Rattle.std.proofs.lemmas.Result.{err_from_is_err_and}
use Rattle.character_walk.specs.Walking.{ramped_move}
use Rattle.character_walk.proofs.walking.ramped_move.Goals as goal

pub returns-in_err-body : goal.returns-in_err-body
unfolding ramped_move
returns-in_err-body c =
    let p = err_from_is_err_and c.from_residual.result c.from_residual.ensures.1 in
    rw (p.1, p.2) (simp (← c.length.ensures, ← c.velocity_ramp-ramp_value.ensures, ← c.new-ramped.ensures, ← c.new-box_.ensures, ← c.walk_box.ensures, c.in_err-body.was))

pub returns : goal.returns
unfolding ramped_move
returns c = simp (← c.length.ensures, ← c.velocity_ramp-ramp_value.ensures, ← c.new-ramped.ensures, ← c.new-box_.ensures, ← c.walk_box.ensures, c.in_ok-body.was, ← c.new.ensures)
