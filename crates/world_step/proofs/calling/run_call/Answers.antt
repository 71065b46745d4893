use Rattle.std.proofs.lemmas.Result.{err_from_is_err_and}
use Rattle.character.specs.Tick.{seats}
use Rattle.world_step.proofs.Kept.{kept}
use Rattle.world_step.proofs.calling.run_call.Goals as goal

pub returns-in_err-told : goal.returns-in_err-told
returns-in_err-told c =
    let a = c.args in
    let p = err_from_is_err_and c.from_residual.result c.from_residual.ensures.1 in
    rw (p.1, p.2) (kept seats a.sides a.tiles.now a.world c.make_call.new.world a.call c.in_err-told.field-0.0 (rw c.in_err-told.was at c.make_call.ensures))
