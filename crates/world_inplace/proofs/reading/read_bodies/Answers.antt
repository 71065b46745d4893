use mathlib.Core.Path.{sym, subst}
use Prim.Native.Nat.{◌-◌, ◌≤◌}
use native.Mathlib.Omega.{arith}
use lib.ListN.{drop}
use Rattle.game_tuning.specs.Tuning.{tuning_count}
use Rattle.character.specs.Tick.{seats}
use Rattle.character.specs.declared.Slot.{Slot}
use Rattle.world_numbers.specs.Decoding.{seats_of, decoding}
use Rattle.world_numbers.proofs.Seats.{seat_is}
use Rattle.world_inplace.specs.Bodies.{Sized, Embodied, BodiesOf}
use Rattle.world_inplace.proofs.Read.{sized_set, bodies_more}
use borrow.Author.Rules.{rules}
use Rattle.world_inplace.proofs.reading.read_bodies.Goals as goal

pub loop-id-init : goal.loop-id-init
loop-id-init c = (search rules, c.requires.1, λ k l. absurd (omega arith))

pub loop-id-preserved : goal.loop-id-preserved
unfolding decoding
loop-id-preserved c =
    let l = c.loop-id in
    let h = c.loop-id-test.true in
    let a = c.args in
    let b = c.body_at-body in
    let e = subst (λ (s : Slot). Embodied s b.result.present b.result.pos b.result.vel) (sym (seat_is seats l.id a.numbers.now h)) b.ensures in
    (omega arith, sized_set _ l.id _ _ _ l.invariant.1, bodies_more (seats_of seats (drop tuning_count a.numbers.now)) _ l.id h l.invariant.1 b.result.present b.result.pos b.result.vel e l.invariant.2)

pub returns : goal.returns
returns c = (c.loop-id.invariant.1, λ k h. c.loop-id.invariant.2 k (omega arith))
