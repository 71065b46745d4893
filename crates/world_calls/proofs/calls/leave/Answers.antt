use Rattle.character.specs.Tick.{seats}
use borrow.Author.Tests.{lt-ltb, le-ltb}
use mir.Facts.{to_z-of_z}
use mathlib.Core.Path.{◌≡◌, ap, ◌∙◌}
use Rattle.world.specs.Calls.{place_of, leave}
use borrow.Author.Rules.{rules}
use Rattle.world_calls.proofs.calls.leave.Goals as goal

pub returns-then-slot : goal.returns-then-slot
unfolding leave
returns-then-slot c =
    let p : c.place_of-at.result ≡ place_of seats c.args.id = c.place_of-at.ensures ∙ ap (place_of seats) (to_z-of_z c.ranges.id) in
    simp (← p, lt-ltb _ _ c.if-at-lt-SEATS.true, c.if-slot.true, c.vacate.ensures)

pub returns-then-at-lt-SEATS : goal.returns-then-at-lt-SEATS
unfolding leave
returns-then-at-lt-SEATS c =
    let p : c.place_of-at.result ≡ place_of seats c.args.id = c.place_of-at.ensures ∙ ap (place_of seats) (to_z-of_z c.ranges.id) in
    simp (← p, lt-ltb _ _ c.if-at-lt-SEATS.true, c.if-slot.false)

pub returns : goal.returns
unfolding leave
returns c =
    let p : c.place_of-at.result ≡ place_of seats c.args.id = c.place_of-at.ensures ∙ ap (place_of seats) (to_z-of_z c.ranges.id) in
    simp (← p, le-ltb _ _ c.if-at-lt-SEATS.false)
