use mathlib.Core.Path.{sym, ap, ◌∙◌}
use lib.ListN.{set}
use mir.Facts.{to_z-of_z}
use Rattle.game_tuning.specs.Tuning.{tuning_count, may_tune}
use Rattle.world.specs.Calls.{place_of}
use Rattle.world_buffers.specs.Buffers.{tune_in}
use Rattle.world_buffers.proofs.Answers.{no_world, not_tuned, no_hold, tuned}
use Rattle.world_buffers.proofs.buffers.tune_in.Goals as goal

pub returns-then-world-ne-WORLD : goal.returns-then-world-ne-WORLD
unfolding tune_in
returns-then-world-ne-WORLD c = no_world c.args.world.now _ c.if-world-ne-WORLD.true

pub returns-then-at-ge-TUNINGS : goal.returns-then-at-ge-TUNINGS
returns-then-at-ge-TUNINGS c =
    let a = c.args in
    let place = c.place_of-at.ensures ∙ ap (place_of tuning_count) (to_z-of_z c.ranges.index) in
    not_tuned a.world.now a.index a.value c.place_of-at.result c.if-world-ne-WORLD.false place c.if-at-ge-TUNINGS.true

pub returns-then-not-may_tune : goal.returns-then-not-may_tune
returns-then-not-may_tune c =
    let a = c.args in
    let place = c.place_of-at.ensures ∙ ap (place_of tuning_count) (to_z-of_z c.ranges.index) in
    let taken = c.may_tune.ensures ∙ ap (may_tune _) (to_z-of_z c.ranges.value) in
    no_hold a.world.now a.index a.value c.place_of-at.result c.if-world-ne-WORLD.false place c.if-at-ge-TUNINGS.false (sym taken ∙ c.if-not-may_tune.true)

pub returns : goal.returns
returns c =
    let a = c.args in
    let place = c.place_of-at.ensures ∙ ap (place_of tuning_count) (to_z-of_z c.ranges.index) in
    let taken = c.may_tune.ensures ∙ ap (may_tune _) (to_z-of_z c.ranges.value) in
    tuned a.world.now a.index a.value c.place_of-at.result c.if-world-ne-WORLD.false place _ c.if-at-ge-TUNINGS.false (sym taken ∙ c.if-not-may_tune.false) (ap (set a.world.now c.place_of-at.result) (to_z-of_z c.ranges.value))
