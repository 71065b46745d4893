use mathlib.Core.Path.{sym, ap, ◌∙◌}
use mir.Facts.{to_z-of_z}
use Rattle.std.proofs.lemmas.Result.{err_from_is_err_and}
use Rattle.world_buffers.specs.Buffers.{present_in, leave_in}
use Rattle.world_buffers.specs.Leaving.{vacate_in}
use Rattle.world_buffers.proofs.Answers.{is_present, is_absent, somebody}
use Rattle.world_buffers.proofs.buffers.leave_in.Goals as goal

pub returns-in_err-at : goal.returns-in_err-at
unfolding leave_in
returns-in_err-at c =
    let a = c.args in
    let p = err_from_is_err_and c.from_residual.result c.from_residual.ensures.1 in
    rw (p.1, p.2) (is_absent a.world.now a.id (vacate_in a.world.now) c.in_err-at.field-0.0 (sym c.in_err-at.was ∙ c.present_in.ensures ∙ ap (present_in a.world.now) (to_z-of_z c.ranges.id)))

pub returns : goal.returns
unfolding leave_in
returns c =
    let a = c.args in
    let s = is_present a.world.now a.id c.in_ok-at.at (sym c.in_ok-at.was ∙ c.present_in.ensures ∙ ap (present_in a.world.now) (to_z-of_z c.ranges.id)) in
    somebody a.world.now a.id (vacate_in a.world.now) c.in_ok-at.at s.long s.place c.vacate_in.new.world s.seat s.there c.vacate_in.ensures
