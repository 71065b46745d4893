use mathlib.Core.List.{[], ◌∷◌}
use Rattle.std.proofs.lemmas.Result.{err_from_is_err_and}
use mathlib.Core.Path.{refl, sym, ap, ◌∙◌}
use lib.IntN.{ℤ}
use mir.Facts.{to_z-of_z}
use Rattle.game_records.proofs.Bits.{again}
use Rattle.character.specs.Tick.{seats}
use Rattle.world.specs.Readers.{seated, mark_now}
use Rattle.world.specs.declared.reading.Query.TheVariants as query
use Rattle.world_numbers.specs.Decoding.{decoding}
use Rattle.world_buffers.specs.Readers.{told_as}
use Rattle.world_buffers.proofs.Readings.{wrong_world, told-seated}
use Rattle.world_buffers.proofs.readers.floor_mark_in.Goals as goal

pub returns-then-world-ne-WORLD : goal.returns-then-world-ne-WORLD
returns-then-world-ne-WORLD c z = let a = c.args in wrong_world (query.FloorMark a.id) a.world.now (z ∷ []) c.if-world-ne-WORLD.true

pub returns-in_err-slot : goal.returns-in_err-slot
returns-in_err-slot c z =
    let a = c.args in
    let p = err_from_is_err_and c.from_residual.result c.from_residual.ensures.1 in
    rw (p.1, p.2) (told-seated (query.FloorMark a.id) a.world.now (z ∷ []) a.id mark_now _ _ (λ w. refl) c.if-world-ne-WORLD.false refl (c.in_err-slot.ensures ∙ ap (seated seats (decoding seats a.world.now)) (to_z-of_z c.ranges.id)) refl)

pub returns : goal.returns
returns c z =
    let a = c.args in
    told-seated (query.FloorMark a.id) a.world.now (z ∷ []) a.id mark_now _ _ (λ w. refl) c.if-world-ne-WORLD.false refl (c.in_ok-slot.ensures ∙ ap (seated seats (decoding seats a.world.now)) (to_z-of_z c.ranges.id)) refl ∙ ap (λ (y : ℤ). told_as (y ∷ [])) (sym (again c.flag.type_inv ∙ c.flag.ensures))
