use Prim.Native.Nat.{ℕ, ◌-◌, ◌≤◌}
use mathlib.Core.Path.{◌≡◌, refl, sym, ap, ◌∙◌}
use native.Mathlib.Omega.{arith}
use lib.ListN.{length, take, drop, length-set}
use lib.Seq.{take_all}
use borrow.Author.Rules.{rules}
use Rattle.character.specs.Tick.{seats}
use Rattle.game_tuning.specs.Tuning.{tuning_count}
use Rattle.world_numbers.specs.Decoding.{each_in, seats_of}
use Rattle.world_numbers.proofs.Seats.{next_seat}
use Rattle.world_numbers.proofs.decoding.seats_of.Goals as goal

pub loop-id-init : goal.loop-id-init
unfolding each_in
loop-id-init c = (omega arith, refl, refl)

pub loop-id-preserved : goal.loop-id-preserved
loop-id-preserved c =
    let l = c in
    let i = l.loop-id.id in
    (omega arith, length-set l.loop-id.slots i _ ∙ l.loop-id.invariant.1, next_seat i l.args.numbers.now l.loop-id.slots c.seat_at.result (omega arith) l.loop-id.invariant.2 c.seat_at.ensures)

pub returns : goal.returns
returns c =
    let l = c in
    let e : l.loop-id.id ≡ seats = omega arith in
    sym (take_all l.loop-id.id l.loop-id.slots (omega arith)) ∙ l.loop-id.invariant.2 ∙ ap (λ (k : ℕ). seats_of k (drop tuning_count l.args.numbers.now)) e
