use mathlib.Core.Path.{refl}
use Rattle.world_numbers.specs.Encoding.{present_numbers, seat_numbers}
use borrow.Author.Rules.{rules}
use Rattle.world_numbers.proofs.encoding.seat_numbers.Goals as goal

pub returns-then-slot : goal.returns-then-slot
unfolding seat_numbers present_numbers
returns-then-slot c = rw c.if-slot.true c.present_numbers.ensures

pub returns : goal.returns
unfolding seat_numbers
returns c = rw c.if-slot.false refl
