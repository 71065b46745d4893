use mathlib.Core.Path.{◌≡◌, ap, ◌∙◌}
use mir.Facts.{to_z-of_z}
use borrow.Author.Tests.{lt-ltb, le-ltb}
use Rattle.character.specs.Tick.{seats}
use Rattle.world.specs.Calls.{place_of}
use Rattle.world.specs.Readers.{seated}
use borrow.Author.Rules.{rules}
use Rattle.world_calls.proofs.readers.seated.Goals.{After-place_of-at}
use Rattle.world_calls.proofs.readers.seated.Goals as goal

-- the place that the number names
place_is : (c : After-place_of-at) → c.place_of-at.result ≡ place_of seats c.args.id
place_is c = c.place_of-at.ensures ∙ ap (place_of seats) (to_z-of_z c.ranges.id)

pub returns-then-slot : goal.returns-then-slot
unfolding seated
returns-then-slot c = simp (← place_is c.before.before.before, lt-ltb _ _ c.if-at-lt-SEATS.true, c.if-slot.true)

pub returns-then-at-lt-SEATS : goal.returns-then-at-lt-SEATS
unfolding seated
returns-then-at-lt-SEATS c = simp (← place_is c.before.before.before, lt-ltb _ _ c.if-at-lt-SEATS.true, c.if-slot.false)

pub returns : goal.returns
unfolding seated
returns c = simp (← place_is c.before, le-ltb _ _ c.if-at-lt-SEATS.false)
