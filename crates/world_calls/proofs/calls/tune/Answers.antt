use Rattle.world.specs.Calls.{tune, place_of}
use Rattle.game_tuning.specs.Tuning.{tuning_count, may_tune}
use borrow.Author.Tests.{lt-ltb, le-ltb}
use mir.Facts.{to_z-of_z}
use mathlib.Core.Path.{◌≡◌, sym, ap, ap₂, ◌∙◌}
use borrow.Author.Rules.{rules}
use Rattle.world_calls.proofs.calls.tune.Goals.{After-may_tune, After-place_of-at}
use Rattle.world_calls.proofs.calls.tune.Goals as goal

-- the place that the index names
place_is : (c : After-place_of-at) → c.place_of-at.result ≡ place_of tuning_count c.args.index
place_is c = c.place_of-at.ensures ∙ ap (place_of tuning_count) (to_z-of_z c.ranges.index)

-- whether the number is taken there
taken_is : (c : After-may_tune) → c.may_tune.result ≡ may_tune (place_of tuning_count c.args.index) c.args.value
taken_is c = c.may_tune.ensures ∙ ap₂ may_tune (place_is c.before.before) (to_z-of_z c.ranges.value)

pub returns-then-may_tune : goal.returns-then-may_tune
unfolding tune
returns-then-may_tune c =
    let m = c.before.before.before in
    simp (sym (taken_is m) ∙ c.if-may_tune.true, ← place_is m.before.before, lt-ltb _ _ m.if-at-lt-TUNINGS.true, c.with_tuning.ensures, to_z-of_z m.ranges.value)

pub returns-then-at-lt-TUNINGS : goal.returns-then-at-lt-TUNINGS
unfolding tune
returns-then-at-lt-TUNINGS c =
    let m = c.before in
    simp (sym (taken_is m) ∙ c.if-may_tune.false, ← place_is m.before.before, lt-ltb _ _ m.if-at-lt-TUNINGS.true)

pub returns : goal.returns
unfolding tune
returns c = simp (← place_is c.before, le-ltb _ _ c.if-at-lt-TUNINGS.false)
