use mathlib.Core.Path.{sym}
use borrow.Author.Rules.{rules}
use Rattle.world_inplace.proofs.ticking.own_tick.Goals as goal

pub returns : goal.returns
returns c = λ ss places. rw (sym c.seat_at-slot.ensures) (c.tick_among.ensures ss places)
