use mathlib.Core.Path.{◌≡◌, refl, sym, ap, ◌∙◌}
use mir.Facts.{to_z-of_z}
use borrow.Author.Tests.{eq-eqb, ne_eqb, lt-ltb, le-ltb}
use Rattle.game_records.specs.Numbers.{number_at}
use Rattle.game_records.proofs.Bits.{again}
use Rattle.character.specs.Tick.{seats}
use Rattle.world.specs.Calls.{place_of}
use Rattle.world_numbers.specs.Encoding.{world_count}
use Rattle.world_numbers.specs.Decoding.{is_set}
use Rattle.world_buffers.specs.Buffers.{is_there}
use Rattle.world_buffers.proofs.buffers.present_in.Goals as goal

pub returns-then-world-ne-WORLD : goal.returns-then-world-ne-WORLD
returns-then-world-ne-WORLD c = rw (ne_eqb _ world_count c.if-world-ne-WORLD.true) refl

pub returns-then-at-ge-SEATS : goal.returns-then-at-ge-SEATS
returns-then-at-ge-SEATS c =
    let place : c.place_of-at.result ≡ place_of seats c.args.id = c.place_of-at.ensures ∙ ap (place_of seats) (to_z-of_z c.ranges.id) in
    rw (eq-eqb _ world_count c.if-world-ne-WORLD.false, ← place, le-ltb _ seats c.if-at-ge-SEATS.true) refl

pub returns-then-not-is_set : goal.returns-then-not-is_set
returns-then-not-is_set c =
    let place : c.place_of-at.result ≡ place_of seats c.args.id = c.place_of-at.ensures ∙ ap (place_of seats) (to_z-of_z c.ranges.id) in
    let there : c.is_set.result ≡ is_there c.args.world.now c.place_of-at.result = c.is_set.ensures ∙ ap is_set (again c.is_set-arg-1.given ∙ ap (number_at c.args.world.now) c.seat_place.ensures) in
    rw (eq-eqb _ world_count c.if-world-ne-WORLD.false, ← place, lt-ltb _ seats c.if-at-ge-SEATS.false, sym there ∙ c.if-not-is_set.true) refl

pub returns : goal.returns
returns c =
    let place : c.place_of-at.result ≡ place_of seats c.args.id = c.place_of-at.ensures ∙ ap (place_of seats) (to_z-of_z c.ranges.id) in
    let there : c.is_set.result ≡ is_there c.args.world.now c.place_of-at.result = c.is_set.ensures ∙ ap is_set (again c.is_set-arg-1.given ∙ ap (number_at c.args.world.now) c.seat_place.ensures) in
    rw (eq-eqb _ world_count c.if-world-ne-WORLD.false, ← place, lt-ltb _ seats c.if-at-ge-SEATS.false, sym there ∙ c.if-not-is_set.false) refl
