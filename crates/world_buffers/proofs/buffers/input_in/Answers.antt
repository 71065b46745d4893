use mathlib.Core.Path.{sym, ap, ap₂, ◌∙◌}
use mathlib.Core.List.{List}
use Prim.Native.Nat.{ℕ, ◌+◌}
use lib.IntN.{ℤ}
use mir.Facts.{to_z-of_z}
use Rattle.std.proofs.lemmas.Result.{err_from_is_err_and}
use Rattle.base_rows.specs.Put.{put}
use Rattle.game_records.specs.Numbers.{input_numbers}
use Rattle.game_records.specs.declared.PlayerInput.{PlayerInput}
use Rattle.world_numbers.specs.Encoding.{record_count, seat_place}
use Rattle.world_buffers.specs.Buffers.{present_in, input_in}
use Rattle.world_buffers.proofs.Answers.{is_present, is_absent, somebody}
use Rattle.world_buffers.proofs.buffers.input_in.Goals as goal

-- the numbers with an input at the seat k
abbrev next : List ℤ → PlayerInput → ℕ → List ℤ
next l i k = put l (seat_place k + record_count) (input_numbers i)

pub returns-in_err-at : goal.returns-in_err-at
unfolding input_in
returns-in_err-at c =
    let a = c.args in
    let p = err_from_is_err_and c.from_residual.result c.from_residual.ensures.1 in
    rw (p.1, p.2) (is_absent a.world.now a.id (next a.world.now a.values) c.in_err-at.field-0.0 (sym c.in_err-at.was ∙ c.present_in.ensures ∙ ap (present_in a.world.now) (to_z-of_z c.ranges.id)))

pub returns : goal.returns
unfolding input_in
returns c =
    let a = c.args in
    let y = c.copy in
    let s = is_present a.world.now a.id c.in_ok-at.at (sym c.in_ok-at.was ∙ c.present_in.ensures ∙ ap (present_in a.world.now) (to_z-of_z c.ranges.id)) in
    somebody a.world.now a.id (next a.world.now a.values) c.in_ok-at.at s.long s.place y.new.numbers s.seat s.there (y.ensures ∙ ap₂ (λ (at : ℕ) (r : List ℤ). put a.world.now (at + record_count) r) c.seat_place.ensures c.input_numbers-row.ensures)
