use Rattle.std.proofs.lemmas.Result.{err_from_is_err_and}
use Rattle.character.specs.Records.{quantize}
use Rattle.character.proofs.Character.quantize.Goals as goal

pub returns-in_err-to_net : goal.returns-in_err-to_net
unfolding quantize
returns-in_err-to_net c =
    let p = err_from_is_err_and c.from_residual.result c.from_residual.ensures.1 in
    (rw (p.1, p.2) (simp (← c.to_net.ensures, c.in_err-to_net.was)), rw (p.1, p.2) (simp (← c.to_net.ensures, c.in_err-to_net.was)))

pub returns : goal.returns
unfolding quantize
returns c = (simp (← c.to_net.ensures, c.in_ok-to_net.was, ← c.from_net.ensures), simp (← c.to_net.ensures, c.in_ok-to_net.was))
