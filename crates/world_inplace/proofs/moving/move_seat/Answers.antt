use Rattle.std.proofs.lemmas.Result.{err_from_is_err_and}
use mathlib.Core.List.{List}
use mathlib.Core.Path.{ap, ◌∙◌}
use native.Mathlib.Omega.{arith}
use lib.IntN.{ℤ}
use Rattle.num_convert.specs.Convert.{i32_to_f32}
use Rattle.game_records.specs.Numbers.{number_at}
use Rattle.game_records.proofs.Bits.{again}
use Rattle.character.specs.Character.{spawn}
use Rattle.character.specs.declared.Character.{Character}
use Rattle.world_inplace.specs.Bodies.{Bodies, body_numbers}
use Rattle.world_inplace.proofs.Moved.{refuses, moves}
use borrow.Author.Rules.{rules}
use Rattle.world_inplace.proofs.moving.move_seat.Goals as goal

pub returns-in_err-left : goal.returns-in_err-left
unfolding spawn
returns-in_err-left c = λ m marks here h.
    let a = c.args in
    let b : Bodies = record { present = a.present.now; xs = a.xs.now; ys = a.ys.now; vxs = a.vxs.now; vys = a.vys.now } in
    let p = err_from_is_err_and c.from_residual.result c.from_residual.ensures.1 in
    rw (p.1, p.2) (refuses a.sides a.tiles.now a.tuning a.id c.requires.2 m b a.rows.now marks here h c.move_among.result _ (c.move_among.ensures m.slots h.places) (ap (λ (d : Character). d.pos) c.spawn-me.ensures ∙ c.new.ensures) c.new-vel.ensures _ c.in_err-left.was)

pub overflow_mul-id : goal.overflow_mul-id
overflow_mul-id c = let h = c.requires.2 in omega (arith, h)

pub overflow_add-id : goal.overflow_add-id
overflow_add-id c = let h = c.requires.2 in omega (arith, h)

pub copy-requires : goal.copy-requires
copy-requires c = let p = c.requires in omega (arith, p.1, p.2)

pub offset_bounds-xs-id-2 : goal.offset_bounds-xs-id-2
offset_bounds-xs-id-2 c = let h = c.requires.2 in omega (arith, h)

pub bounds-xs-id-2 : goal.bounds-xs-id-2
bounds-xs-id-2 c = c.requires.2

pub offset_bounds-ys-id-2 : goal.offset_bounds-ys-id-2
offset_bounds-ys-id-2 c = let h = c.requires.2 in omega (arith, h)

pub bounds-ys-id-2 : goal.bounds-ys-id-2
bounds-ys-id-2 c = c.requires.2

pub returns : goal.returns
unfolding spawn body_numbers
returns c = λ m marks here h.
    let s = c in
    let a = s.args in
    let b : Bodies = record { present = a.present.now; xs = a.xs.now; ys = a.ys.now; vxs = a.vxs.now; vys = a.vys.now } in
    let k = c.move_among in
    let row = c.body_numbers-row.ensures in
    let x = c.i32_to_f32.ensures ∙ ap i32_to_f32 (again c.i32_to_f32-arg-1.given ∙ ap (λ (r : List ℤ). number_at r 0) row) in
    let y = c.i32_to_f32-2.ensures ∙ ap i32_to_f32 (again c.i32_to_f32-arg-2-1.given ∙ ap (λ (r : List ℤ). number_at r 1) row) in
    rw (x, y, c.copy.ensures, row) (moves a.sides a.tiles.now a.tuning a.id s.requires.2 m b a.rows.now marks here h k.result _ (k.ensures m.slots h.places) (ap (λ (d : Character). d.pos) c.spawn-me.ensures ∙ c.new.ensures) c.new-vel.ensures c.in_ok-left.left c.in_ok-left.was)
