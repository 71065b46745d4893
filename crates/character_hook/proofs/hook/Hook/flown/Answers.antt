use Rattle.std.proofs.lemmas.Result.{err_from_is_err_and}
use Rattle.character_hook.specs.Flying.{flown}
use Rattle.character_hook.proofs.Variants.{not_flying}
use borrow.Enum.Refused.{opened}
use Rattle.character_hook.proofs.hook.Hook.flown.Goals as goal

pub returns-in_default : goal.returns-in_default
unfolding flown
returns-in_default c = rw (not_flying _ _ _ (opened c.in_default.in_default-own.keys2), ← c.retract.ensures)

pub returns-in_err-hit : goal.returns-in_err-hit
unfolding flown
returns-in_err-hit c =
    let p = err_from_is_err_and c.from_residual.result c.from_residual.ensures.1 in
    rw (p.1, p.2) (simp (c.in-Flying.is, ← c.fly-flight.ensures, ← c.walk_line.ensures, c.in_err-hit.was))

pub returns : goal.returns
unfolding flown
returns c = simp (c.in-Flying.is, ← c.fly-flight.ensures, ← c.walk_line.ensures, c.in_ok-hit.was, ← c.strike.ensures)
