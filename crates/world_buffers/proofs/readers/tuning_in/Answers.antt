use mathlib.Core.List.{[], ◌∷◌}
use mathlib.Core.Path.{◌≡◌, refl, ap, ◌∙◌}
use lib.IntN.{pos}
use lib.Seq.{get_or-take}
use mir.Facts.{to_z-of_z}
use borrow.Author.Tests.{lt-ltb, le-ltb}
use Rattle.game_records.proofs.Bits.{again}
use Rattle.game_tuning.specs.Tuning.{tuning_count}
use Rattle.world.specs.Calls.{place_of}
use Rattle.world.specs.Readers.{tuning_now}
use Rattle.world.specs.declared.reading.Query.TheVariants as query
use Rattle.world_numbers.specs.Decoding.{decoding}
use Rattle.world_buffers.proofs.Readings.{wrong_world, right_lengths}
use Rattle.world_buffers.proofs.readers.tuning_in.Goals as goal

pub returns-then-world-ne-WORLD : goal.returns-then-world-ne-WORLD
returns-then-world-ne-WORLD c z = let a = c.args in wrong_world (query.Tuning a.index) a.world.now (z ∷ []) c.if-world-ne-WORLD.true

pub returns-then-at-ge-TUNINGS : goal.returns-then-at-ge-TUNINGS
unfolding tuning_now
returns-then-at-ge-TUNINGS c z =
    let a = c.args in
    let place : c.place_of-at.result ≡ place_of tuning_count a.index = c.place_of-at.ensures ∙ ap (place_of tuning_count) (to_z-of_z c.ranges.index) in
    right_lengths (query.Tuning a.index) a.world.now (z ∷ []) c.if-world-ne-WORLD.false refl ∙ rw (← place, le-ltb _ _ c.if-at-ge-TUNINGS.true) refl

pub returns : goal.returns
unfolding tuning_now decoding
returns c z =
    let a = c.args in
    let g = c.if-at-ge-TUNINGS.false in
    let place : c.place_of-at.result ≡ place_of tuning_count a.index = c.place_of-at.ensures ∙ ap (place_of tuning_count) (to_z-of_z c.ranges.index) in
    rw (again c.told_tuning.type_inv, c.told_tuning.ensures, again c.told_tuning-arg-1.given) (right_lengths (query.Tuning a.index) a.world.now (z ∷ []) c.if-world-ne-WORLD.false refl ∙ rw (← place, lt-ltb _ _ g, get_or-take tuning_count a.world.now c.place_of-at.result (pos 0) g) refl)
