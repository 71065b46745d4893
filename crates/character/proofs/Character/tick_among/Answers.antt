use mathlib.Core.Path.{◌∙◌}
use Rattle.std.proofs.lemmas.Result.{err_from_is_err_and}
use Rattle.character.specs.Tick.{tick_at, caught}
use Rattle.character.proofs.Character.tick_among.Goals as goal

pub returns-in_err-way : goal.returns-in_err-way
unfolding tick_at caught
returns-in_err-way c = λ ss places.
    let p = err_from_is_err_and c.from_residual.result c.from_residual.ensures.1 in
    rw (p.1, p.2) (simp (← c.grounded-on_ground.ensures, ← c.steer-steered.ensures, ← c.flown.ensures, c.in_err-way.was))

pub returns : goal.returns
unfolding tick_at
returns c = λ ss places. c.hooked.ensures ss places ∙ simp (← c.grounded-on_ground.ensures, ← c.steer-steered.ensures, ← c.flown.ensures, c.in_ok-way.was, ← c.caught-hook.ensures ss places)
