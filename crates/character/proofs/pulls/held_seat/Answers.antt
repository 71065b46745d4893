use borrow.Author.Tests.{lt-ltb, le-ltb}
use borrow.Author.Rules.{rules}
use Rattle.character_hook.proofs.Variants.{not_grabbed}
use Rattle.character.specs.Among.{held_seat}
use borrow.Enum.Refused.{opened}
use Rattle.character.proofs.pulls.held_seat.Goals as goal

pub returns-in_default : goal.returns-in_default
unfolding held_seat
returns-in_default c = rw (not_grabbed _ _ _ (opened c.in_default.in_default-own.keys2))

pub returns-then-held-lt-SEATS : goal.returns-then-held-lt-SEATS
unfolding held_seat
returns-then-held-lt-SEATS c = simp (c.in-Grabbed.is, lt-ltb _ _ c.if-held-lt-SEATS.true)

pub returns : goal.returns
unfolding held_seat
returns c = simp (c.in-Grabbed.is, le-ltb _ _ c.if-held-lt-SEATS.false)
