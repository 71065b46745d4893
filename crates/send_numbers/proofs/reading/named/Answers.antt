use mathlib.Core.Path.{◌≡◌, refl, ap, ◌∙◌}
use borrow.Author.Tests.{lt-ltb, le-ltb}
use Rattle.game_records.specs.Numbers.{number_at}
use Rattle.game_records.proofs.Bits.{again}
use Rattle.world.specs.Calls.{place_of}
use Rattle.send_numbers.proofs.reading.named.Goals as goal

pub returns-then-numbers-count : goal.returns-then-numbers-count
returns-then-numbers-count c = rw (lt-ltb _ _ c.if-numbers-count.true) refl

pub returns-then-at-places : goal.returns-then-at-places
returns-then-at-places c =
    let a = c.args in
    let e : c.place_of-at.result ≡ place_of a.places (number_at a.numbers.now 1) = c.place_of-at.ensures ∙ ap (place_of a.places) (again c.place_of-arg-1.given) in
    rw (le-ltb _ _ c.if-numbers-count.false, ← e, le-ltb _ _ c.if-at-places.true) refl

pub returns : goal.returns
returns c =
    let a = c.args in
    let e : c.place_of-at.result ≡ place_of a.places (number_at a.numbers.now 1) = c.place_of-at.ensures ∙ ap (place_of a.places) (again c.place_of-arg-1.given) in
    rw (le-ltb _ _ c.if-numbers-count.false, ← e, lt-ltb _ _ c.if-at-places.false) refl
