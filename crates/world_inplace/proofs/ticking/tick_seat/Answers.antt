use Rattle.std.proofs.lemmas.Result.{err_from_is_err_and}
use Prim.Native.Nat.{◌+◌, ◌*◌}
use mathlib.Core.Bool.{true}
use mathlib.Core.Path.{sym, ap, ◌∙◌, subst}
use native.Mathlib.Omega.{arith}
use lib.ListN.{set}
use Rattle.base_rows.specs.Put.{put}
use Rattle.game_records.specs.declared.CharacterCore.{CharacterCore}
use Rattle.character.specs.Records.{to_net}
use Rattle.character.specs.Tick.{seats}
use Rattle.world.specs.Step.{tick_turn}
use Rattle.world_numbers.specs.Encoding.{record_count, net_core, record_numbers}
use Rattle.world_inplace.specs.Bodies.{Bodies}
use Rattle.world_inplace.specs.Ticks.{TicksWent}
use Rattle.world_inplace.proofs.Ticked.{places_in, refuses, ticks}
use borrow.Author.Rules.{rules}
use Rattle.world_inplace.proofs.ticking.tick_seat.Goals as goal

pub returns-in_err-own : goal.returns-in_err-own
returns-in_err-own c = λ ss here h.
    let a = c.args in
    let b : Bodies = record { present = a.present.now; xs = a.xs.now; ys = a.ys.now; vxs = a.vxs.now; vys = a.vys.now } in
    let e = rw c.new-vel.ensures at (c.own_tick.ensures ss (places_in seats ss b h.bodies)) in
    let p = err_from_is_err_and c.from_residual.result c.from_residual.ensures.1 in
    rw (p.1, p.2) (refuses a.numbers.now a.sides a.tiles.now a.tuning a.id c.requires.3 ss b a.rows.now a.marks.now here h c.own_tick.result e _ c.in_err-own.was)

pub overflow_mul-id : goal.overflow_mul-id
overflow_mul-id c = let h = c.requires.3 in omega (arith, h)

pub copy-requires : goal.copy-requires
copy-requires c = let p = c.requires in omega (arith, p.2, p.3)

pub bounds-marks-id : goal.bounds-marks-id
bounds-marks-id c = c.requires.3

pub returns : goal.returns
returns c = λ ss here h.
    let s = c in
    let a = s.args in
    let b : Bodies = record { present = a.present.now; xs = a.xs.now; ys = a.ys.now; vxs = a.vxs.now; vys = a.vys.now } in
    let k = c.own_tick in
    let e = rw c.new-vel.ensures at (k.ensures ss (places_in seats ss b h.bodies)) in
    let row = c.record_numbers-row.ensures ∙ ap (λ (n : CharacterCore). record_numbers (record { present = true; core = n })) (c.net_core.ensures ∙ ap net_core c.to_net.ensures) in
    let went = ticks a.numbers.now a.sides a.tiles.now a.tuning a.id s.requires.3 ss b a.rows.now a.marks.now here h k.result e c.in_ok-own.own c.in_ok-own.was in
    rw (c.copy.ensures, row) (subst (λ (d : Bodies). TicksWent a.numbers.now (a.id + 1) (tick_turn seats a.sides a.tiles.now a.tuning a.id ss) d (put a.rows.now (record_count * a.id) (record_numbers (record { present = true; core = net_core (to_net c.in_ok-own.own.me) }))) (set a.marks.now a.id c.in_ok-own.own.grounded)) (sym c.write_speeds.ensures) went)
