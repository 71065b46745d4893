use mathlib.Core.Path.{◌≡◌, sym, ap, ap₂, ◌∙◌}
use mir.Facts.{to_z-of_z}
use Rattle.character.specs.Tick.{seats}
use Rattle.world.specs.Calls.{place_of, is_in_reach, point_of}
use Rattle.world_buffers.specs.Buffers.{join_at_in, join_in}
use Rattle.world_buffers.proofs.Answers.{no_world, no_map, join-nowhere, x-far, y-far, in_reach}
use Rattle.world_buffers.proofs.buffers.join_in.Goals.{then-not-in_reach-via-then-not-in_reach, then-not-in_reach-via-else-not-in_reach+then-not-in_reach-2}
use Rattle.world_buffers.proofs.buffers.join_in.Goals as goal

pub returns-then-world-ne-WORLD : goal.returns-then-world-ne-WORLD
unfolding join_in
returns-then-world-ne-WORLD c = no_world c.args.world.now _ c.if-world-ne-WORLD.true

pub returns-then-not-is_map : goal.returns-then-not-is_map
returns-then-not-is_map c = let a = c.args in no_map a.sides a.tiles.now a.world.now a.id a.x a.y c.if-world-ne-WORLD.false (sym c.is_map.ensures ∙ c.if-not-is_map.true)

pub returns-then-at-ge-SEATS : goal.returns-then-at-ge-SEATS
returns-then-at-ge-SEATS c =
    let a = c.args in
    let place = c.place_of-at.ensures ∙ ap (place_of seats) (to_z-of_z c.ranges.id) in
    join-nowhere a.sides a.tiles.now a.world.now a.id a.x a.y c.if-world-ne-WORLD.false (sym c.is_map.ensures ∙ c.if-not-is_map.false) c.place_of-at.result place c.if-at-ge-SEATS.true

pub returns-then-not-in_reach : goal.returns-then-not-in_reach
returns-then-not-in_reach c =
    let a = c.args in
    let f = c.ranges in
    let map = sym c.is_map.ensures ∙ c.if-not-is_map.false in
    let place = c.place_of-at.ensures ∙ ap (place_of seats) (to_z-of_z f.id) in
    let near : c.in_reach.result ≡ is_in_reach a.x = c.in_reach.ensures ∙ ap is_in_reach (to_z-of_z f.x) in
    elim c.then-not-in_reach.branch [
      | then-not-in_reach-via-then-not-in_reach w ↦ x-far a.sides a.tiles.now a.world.now a.id a.x a.y c.if-world-ne-WORLD.false map c.place_of-at.result place c.if-at-ge-SEATS.false (sym near ∙ w.if-not-in_reach.true)
      | then-not-in_reach-via-else-not-in_reach+then-not-in_reach-2 w ↦ y-far a.sides a.tiles.now a.world.now a.id a.x a.y c.if-world-ne-WORLD.false map c.place_of-at.result place c.if-at-ge-SEATS.false (sym near ∙ w.if-not-in_reach.false) (sym (w.in_reach-else-not-in_reach.ensures ∙ ap is_in_reach (to_z-of_z f.y)) ∙ w.if-not-in_reach-2.true)
    ]

pub returns : goal.returns
returns c =
    let a = c.args in
    let f = c.ranges in
    let map = sym c.is_map.ensures ∙ c.if-not-is_map.false in
    let place = c.place_of-at.ensures ∙ ap (place_of seats) (to_z-of_z f.id) in
    let x : c.in_reach.result ≡ is_in_reach a.x = c.in_reach.ensures ∙ ap is_in_reach (to_z-of_z f.x) in
    let y : c.in_reach-else-not-in_reach.result ≡ is_in_reach a.y = c.in_reach-else-not-in_reach.ensures ∙ ap is_in_reach (to_z-of_z f.y) in
    let p = c.point_of.ensures ∙ ap₂ point_of (to_z-of_z f.x) (to_z-of_z f.y) in
    in_reach a.sides a.tiles.now a.world.now a.id a.x a.y c.if-world-ne-WORLD.false map c.place_of-at.result place c.if-at-ge-SEATS.false _ (sym x ∙ c.if-not-in_reach.false) (sym y ∙ c.if-not-in_reach-2.false) (ap (join_at_in a.sides a.tiles.now a.world.now c.place_of-at.result) (sym p) ∙ c.join_at_in.ensures)
