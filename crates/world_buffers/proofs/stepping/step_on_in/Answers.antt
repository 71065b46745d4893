use mathlib.Core.Path.{refl, sym, ap, ◌∙◌, subst}
use Rattle.std.proofs.lemmas.Result.{err_from_is_err_and}
use Rattle.character.specs.Tick.{seats}
use Rattle.world_numbers.specs.Decoding.{decoding}
use Rattle.world_inplace.proofs.Advanced.{advance_done, advance_off}
use Rattle.world_buffers.specs.Leaving.{ListsSeats}
use Rattle.world_buffers.specs.Stepping.{left_by_step}
use Rattle.world_buffers.proofs.InPlace.{refused_in, answered, rows_told}
use Rattle.world_buffers.proofs.Listed.{dying_lists}
use Rattle.world_buffers.proofs.stepping.step_on_in.Goals as goal

pub list_dying-gone-requires : goal.list_dying-gone-requires
list_dying-gone-requires c = let k = c.advance in (c.requires.0, (advance_done k.result _ c.in_ok-advance.was k.ensures).markers)

pub tell_step-requires : goal.tell_step-requires
tell_step-requires c =
    let p = c.requires in
    let a = c.args in
    let k = c.advance in
    let h = advance_done k.result _ c.in_ok-advance.was k.ensures in
    let d = c.list_dying-gone.ensures h.moving.slots h.places in
    (h.size, p.1, p.2, p.3, subst ListsSeats (sym d.ids) (dying_lists a.sides a.tiles.now h.moving.slots))

pub returns : goal.returns
returns c n =
    let a = c.args in
    let k = c.advance in
    let w = decoding seats a.world.now in
    let h = advance_done k.result _ c.in_ok-advance.was k.ensures in
    let d = c.list_dying-gone.ensures h.moving.slots h.places in
    ap (left_by_step a.world.now (record { records = a.records.now; removed = a.removed.now; count = n })) (answered w a.sides a.tiles.now _ _ _ _ _ h)
    ∙ c.tell_step.ensures _ (rows_told w a.sides a.tiles.now _ _ _ _ _ h c.list_dying-gone.result _ d) n refl (sym d.ids)

pub returns-in_err-advance : goal.returns-in_err-advance
returns-in_err-advance c n =
    let a = c.args in
    let k = c.advance in
    let p = err_from_is_err_and c.from_residual.result c.from_residual.ensures.1 in
    rw (p.1, p.2) (refused_in (decoding seats a.world.now) a.sides a.tiles.now a.world.now (record { records = a.records.now; removed = a.removed.now; count = n }) _ (advance_off _ _ _ _ _ k.result _ c.in_err-advance.was k.ensures))
