use mathlib.Core.Path.{◌≡◌, refl, ap, ◌∙◌}
use mir.Facts.{to_z-of_z}
use borrow.Author.Tests.{lt-ltb, le-ltb}
use Rattle.game_tuning.specs.Tuning.{tuning_count}
use Rattle.game_records.proofs.Bits.{again}
use Rattle.world.specs.Calls.{place_of}
use Rattle.world.specs.Readers.{tuning_now}
use borrow.Author.Rules.{rules}
use Rattle.world_calls.proofs.readers.tuning_now.Goals.{After-place_of-at}
use Rattle.world_calls.proofs.readers.tuning_now.Goals as goal

-- the place that the index names
place_is : (c : After-place_of-at) → c.place_of-at.result ≡ place_of tuning_count c.args.index
place_is c = c.place_of-at.ensures ∙ ap (place_of tuning_count) (to_z-of_z c.ranges.index)

pub returns-then-at-lt-TUNINGS : goal.returns-then-at-lt-TUNINGS
unfolding tuning_now
returns-then-at-lt-TUNINGS c =
    let p = c.before.before.before in
    rw (again c.told_tuning.type_inv, c.told_tuning.ensures, again c.told_tuning-arg-1.given, ← place_is p, lt-ltb _ _ c.if-at-lt-TUNINGS.true) refl

pub returns : goal.returns
unfolding tuning_now
returns c = simp (← place_is c.before, le-ltb _ _ c.if-at-lt-TUNINGS.false)
