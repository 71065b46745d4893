use borrow.Author.Rules.{rules}
use borrow.Author.Tests.{ne_eqb, eq-eqb}
use Rattle.character.specs.Tick.{pulled_slot}
use Rattle.character.proofs.Slot.pulled.Goals as goal

pub returns-in_default : goal.returns-in_default
unfolding pulled_slot
returns-in_default c = simp c.in_default.is

pub returns-then-pull-seat : goal.returns-then-pull-seat
unfolding pulled_slot
returns-then-pull-seat c = simp (c.in-Some.is, ne_eqb _ _ c.if-pull-seat.true)

pub returns : goal.returns
unfolding pulled_slot
returns c = simp (c.in-Some.is, eq-eqb _ _ c.if-pull-seat.false, ← c.with_character.ensures)
