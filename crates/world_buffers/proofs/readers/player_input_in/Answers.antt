use mathlib.Core.Path.{◌≡◌, refl, sym, ap, ◌∙◌}
use native.Mathlib.Omega.{arith}
use lib.ListN.{length}
use mir.Facts.{to_z-of_z}
use Rattle.base_rows.proofs.Puts.{put_end}
use Rattle.game_records.specs.Numbers.{input_count}
use Rattle.game_records.proofs.Back.{input_long}
use Rattle.std.proofs.lemmas.Result.{err_from_is_err_and}
use Rattle.character.specs.Tick.{seats}
use Rattle.world.specs.Readers.{seated, input_now}
use Rattle.world.specs.declared.reading.Query.TheVariants as query
use Rattle.world_numbers.specs.Decoding.{decoding}
use Rattle.world_buffers.specs.Readers.{told_as}
use Rattle.world_buffers.proofs.Readings.{wrong_world, wrong_out, told-seated}
use Rattle.world_buffers.proofs.readers.player_input_in.Goals.{then-world-ne-WORLD-via-then-world-ne-WORLD, then-world-ne-WORLD-via-else-world-ne-WORLD+then-input-ne-INPUT}
use Rattle.world_buffers.proofs.readers.player_input_in.Goals as goal

pub returns-then-world-ne-WORLD : goal.returns-then-world-ne-WORLD
returns-then-world-ne-WORLD c =
    let a = c.args in
    elim c.then-world-ne-WORLD.branch [
      | then-world-ne-WORLD-via-then-world-ne-WORLD w ↦ wrong_world (query.PlayerInput a.id) a.world.now a.input.now w.if-world-ne-WORLD.true
      | then-world-ne-WORLD-via-else-world-ne-WORLD+then-input-ne-INPUT w ↦ wrong_out (query.PlayerInput a.id) a.world.now a.input.now w.if-world-ne-WORLD.false w.if-input-ne-INPUT.true
    ]

pub returns-in_err-slot : goal.returns-in_err-slot
returns-in_err-slot c =
    let a = c.args in
    let p = err_from_is_err_and c.from_residual.result c.from_residual.ensures.1 in
    rw (p.1, p.2) (told-seated (query.PlayerInput a.id) a.world.now a.input.now a.id input_now _ _ (λ w. refl) c.if-world-ne-WORLD.false c.if-input-ne-INPUT.false (c.in_err-slot.ensures ∙ ap (seated seats (decoding seats a.world.now)) (to_z-of_z c.ranges.id)) refl)

pub returns : goal.returns
returns c =
    let a = c.args in
    let g = c.if-input-ne-INPUT.false in
    let r = c.input_numbers-row in
    let n : length r.result ≡ input_count = ap length r.ensures ∙ input_long _ in
    let row = c.copy.ensures ∙ put_end a.input.now 0 r.result (omega arith) ∙ r.ensures in
    told-seated (query.PlayerInput a.id) a.world.now a.input.now a.id input_now _ _ (λ w. refl) c.if-world-ne-WORLD.false c.if-input-ne-INPUT.false (c.in_ok-slot.ensures ∙ ap (seated seats (decoding seats a.world.now)) (to_z-of_z c.ranges.id)) refl ∙ ap told_as (sym row)
