use mathlib.Core.Path.{sym, ap, ◌∙◌}
use Rattle.std.proofs.lemmas.Result.{err_from_is_err_and}
use Rattle.num_convert.proofs.Signed.{read}
use Rattle.character.specs.Tick.{seats}
use Rattle.character.proofs.Refused.{net_refused}
use Rattle.world.specs.Readers.{seated}
use Rattle.world_calls.proofs.readers.read.Goals as goal

pub returns-in_err-core-in-Record : goal.returns-in_err-core-in-Record
returns-in_err-core-in-Record c =
    let s = c.from_residual-in_err-core-in-Record in
    let p = err_from_is_err_and s.result s.ensures.1 in
    let large = net_refused _ _ (sym c.to_net.ensures ∙ c.in_err-core-in-Record.was) in
    let there = sym c.in_ok-seated-in-Record.was ∙ c.seated.ensures ∙ ap (seated seats c.args.world) (read c.in-Record.id c.in-Record.known_told-1-own.given.0.1) in
    rw (p.1, p.2, large) (simp (c.in-Record.is, ← there, ← c.to_net.ensures, c.in_err-core-in-Record.was))
