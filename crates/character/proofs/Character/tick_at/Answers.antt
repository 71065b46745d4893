use mathlib.Core.Path.{◌≡◌, sym, ◌∙◌}
use Prim.Native.Nat.{◌<◌}
use native.Mathlib.Omega.{arith}
use Rattle.std.proofs.lemmas.Result.{err_from_is_err_and}
use Rattle.character.specs.Tick.{seats, pull_of}
use Rattle.character.proofs.Held.{held_below, pull-held}
use Rattle.character.proofs.Character.tick_at.Goals.{After-held_seat-held}
use Rattle.character.proofs.Character.tick_at.Goals as goal

pub returns-in_err-own : goal.returns-in_err-own
returns-in_err-own c =
    let p = err_from_is_err_and c.from_residual.result c.from_residual.ensures.1 in
    rw (p.1, p.2) (rw c.in_err-own.was at (c.tick_among.ensures c.args.slots c.places_of-places.ensures))

-- it holds somebody at a seat
below : (c : After-held_seat-held) → c.held_seat-held.result < seats
below c =
    let s = c in
    rw c.held_seat-held.ensures (held_below seats s.args.id _ s.requires.1)

pub offset_bounds-slots-held : goal.offset_bounds-slots-held
offset_bounds-slots-held c = let b = below c in omega (arith, b)

pub bounds-slots-held : goal.bounds-slots-held
bounds-slots-held c = below c

pub pull_by-pull-requires : goal.pull_by-pull-requires
pull_by-pull-requires c = below (record { before = c.before.before; type_inv = record { tiles = c.type_inv.tiles } })

pub returns : goal.returns
returns c =
    let b = c in
    let d = b in
    let a = d.args in
    let me = b.in_ok-own.own.me in
    let pulls : c.pull_by-pull.result ≡ pull_of seats a.slots a.id me.pos me.hook a.tuning = c.pull_by-pull.ensures ∙ rw c.held_seat-held.ensures (sym (pull-held seats a.id a.slots me.pos me.hook a.tuning)) in
    rw pulls (rw b.in_ok-own.was at (b.tick_among.ensures a.slots d.places_of-places.ensures))
