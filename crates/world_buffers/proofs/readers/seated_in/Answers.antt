use mathlib.Core.Path.{◌≡◌, sym, ap, ◌∙◌}
use mir.Facts.{to_z-of_z}
use borrow.Author.Tests.{lt-ltb, le-ltb, not-true, not-false}
use Rattle.character.specs.Tick.{seats, slot_at}
use Rattle.world.specs.Calls.{place_of}
use Rattle.world.specs.Readers.{seated}
use Rattle.world_numbers.specs.Decoding.{decoding}
use Rattle.world_numbers.proofs.Seats.{seat_is}
use Rattle.world_buffers.proofs.readers.seated_in.Goals as goal

pub returns-then-at-ge-SEATS : goal.returns-then-at-ge-SEATS
unfolding seated
returns-then-at-ge-SEATS c =
    let place : c.place_of-at.result ≡ place_of seats c.args.id = c.place_of-at.ensures ∙ ap (place_of seats) (to_z-of_z c.ranges.id) in
    simp (← place, le-ltb _ _ c.if-at-ge-SEATS.true)

pub returns-then-not-slot : goal.returns-then-not-slot
unfolding seated
returns-then-not-slot c =
    let place : c.place_of-at.result ≡ place_of seats c.args.id = c.place_of-at.ensures ∙ ap (place_of seats) (to_z-of_z c.ranges.id) in
    let slot : slot_at (decoding seats c.args.world.now).slots c.place_of-at.result ≡ c.seat_at-slot.result = seat_is seats c.place_of-at.result c.args.world.now c.if-at-ge-SEATS.false ∙ sym c.seat_at-slot.ensures in
    simp (← place, lt-ltb _ _ c.if-at-ge-SEATS.false, slot, not-true _ c.if-not-slot.true)

pub returns : goal.returns
unfolding seated
returns c =
    let place : c.place_of-at.result ≡ place_of seats c.args.id = c.place_of-at.ensures ∙ ap (place_of seats) (to_z-of_z c.ranges.id) in
    let slot : slot_at (decoding seats c.args.world.now).slots c.place_of-at.result ≡ c.seat_at-slot.result = seat_is seats c.place_of-at.result c.args.world.now c.if-at-ge-SEATS.false ∙ sym c.seat_at-slot.ensures in
    simp (← place, lt-ltb _ _ c.if-at-ge-SEATS.false, slot, not-false _ c.if-not-slot.false)
