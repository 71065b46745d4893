use mathlib.Core.Path.{◌≡◌, ap, ◌∙◌}
use lib.Ieee.{binary32, of_bits}
use Prim.Native.Nat.{◌/◌, ◌%◌}
use lib.Dec.{eqb}
use Rattle.test_states.specs.States.{point_at, direction_in, character_in}
use Rattle.test_states.proofs.Told.{point_in}
use Rattle.test_states.proofs.states.character_of.Goals as goal

pub returns : goal.returns
unfolding character_in
returns c =
    let jumps = c.nth-jumps.ensures in
    let ws = c.args.words.now in
    let pos : c.point.result ≡ point_at ws 0 = point_in c.point.ensures c.nth.ensures c.nth-2.ensures in
    let vel : c.point-2.result ≡ point_at ws 2 = point_in c.point-2.ensures c.nth-3.ensures c.nth-4.ensures in
    let angle = c.from_radians.ensures ∙ ap (λ x. record { radians = x }) (c.float_of.ensures ∙ ap (of_bits binary32) c.nth-5.ensures) in
    let direction = c.direction_of.ensures ∙ ap direction_in c.nth-6.ensures in
    λ i. record { pos = pos i; vel = vel i; hook = c.hook_of.ensures i; jumped_already = eqb (jumps i % 2) 1; used_airjump = eqb (jumps i / 2) 1; angle = angle i; move_direction = direction i }
