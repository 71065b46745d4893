use mathlib.Core.Path.{sym, ap, ◌∙◌}
use lib.ListN.{drop}
use Rattle.std.proofs.lemmas.Result.{err_from_is_err_and}
use Rattle.game_tuning.specs.Tuning.{tuning_count, tuning_of}
use Rattle.character.specs.Tick.{seats}
use Rattle.world.specs.Step.{tick_all}
use Rattle.world_numbers.specs.Decoding.{seats_of, decoding}
use Rattle.world_inplace.proofs.Advanced.{ticks_done, ticks_off, both_done, ticks_refused}
use Rattle.world_inplace.proofs.advancing.advance.Goals as goal

pub move_seats-requires : goal.move_seats-requires
move_seats-requires c = let k = c.tick_seats in (c.requires.0, (ticks_done k.result _ c.in_ok-tick_seats.was k.ensures).stand.size)

pub returns-in_err-tick_seats : goal.returns-in_err-tick_seats
unfolding decoding
returns-in_err-tick_seats c =
    let a = c.args in
    let k = c.tick_seats in
    let t = c.tuning_of-tuning.ensures ∙ ap tuning_of c.tunings_of.ensures in
    let e = tick_all seats (seats_of seats (drop tuning_count a.numbers.now)) a.sides a.tiles.now c.tuning_of-tuning.result in
    let p = err_from_is_err_and c.from_residual.result c.from_residual.ensures.1 in
    rw (p.1, p.2) (rw (sym t) (ticks_refused a.numbers.now a.sides a.tiles.now c.tuning_of-tuning.result e _ (ticks_off _ _ _ _ _ k.result _ c.in_err-tick_seats.was k.ensures)))

pub returns : goal.returns
unfolding decoding
returns c =
    let a = c.args in
    let k = c.tick_seats in
    let t = c.tuning_of-tuning.ensures ∙ ap tuning_of c.tunings_of.ensures in
    let e = tick_all seats (seats_of seats (drop tuning_count a.numbers.now)) a.sides a.tiles.now c.tuning_of-tuning.result in
    rw (sym t) (both_done a.numbers.now a.sides a.tiles.now c.tuning_of-tuning.result e _ _ _ _ _ c.move_seats.result (ticks_done k.result _ c.in_ok-tick_seats.was k.ensures) c.move_seats.ensures)
