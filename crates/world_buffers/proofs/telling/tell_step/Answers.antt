use mathlib.Core.List.{List}
use mathlib.Core.Path.{sym, ap, ◌∙◌}
use native.Mathlib.Omega.{arith}
use lib.IntN.{ℤ}
use Rattle.base_rows.proofs.Puts.{put_end}
use Rattle.world.specs.Removal.{ids_in}
use Rattle.world.specs.declared.Removed.{Removed}
use Rattle.world_buffers.specs.Leaving.{remove_in}
use Rattle.world_buffers.specs.Stepping.{step_seats}
use Rattle.world_buffers.proofs.StepAnswers.{told_is, step-accepted}
use Rattle.world_buffers.proofs.telling.tell_step.Goals as goal

pub returns : goal.returns
returns c = λ s h n z q.
    let i = c in
    let a = i.args in
    let y = c.copy-2 in
    let x = c.copy in
    let v = c.remove_in in
    let w = c.write_seats in
    step-accepted a.world.now (record { records = a.records.now; removed = a.removed.now; count = n }) s v.new.world _ z
    (v.ensures ∙ ap (λ (l : List ℤ). remove_in l (ids_in a.gone)) (w.ensures s h) ∙ ap (λ (r : Removed). remove_in (step_seats s a.world.now) (ids_in r)) (sym q))
    (told_is s x.new.numbers y.new.numbers _ (x.ensures ∙ put_end a.records.now 0 a.rows.now (omega (arith, i.requires.0, i.requires.2)) ∙ h.records) (y.ensures ∙ put_end a.removed.now 0 a.gone.ids (omega (arith, i.requires.3)) ∙ ap (λ (r : Removed). r.ids) (sym q)) (ap (λ (r : Removed). r.count) (sym q)))
