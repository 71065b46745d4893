use mathlib.Core.Path.{sym, ◌∙◌, subst}
use lib.Dec.{T}
use borrow.Author.Tests.{lt-ltb, le-ltb}
use Rattle.character.specs.Tick.{tick}
use Rattle.character.proofs.Character.tick.Goals as goal

pub tick_at-requires : goal.tick_at-requires
tick_at-requires c = (subst T (sym c.if-is_map.true ∙ c.is_map.ensures) tt, c.if-at-lt-SEATS.true)

pub returns-then-at-lt-SEATS : goal.returns-then-at-lt-SEATS
unfolding tick
returns-then-at-lt-SEATS c = simp (← c.is_map.ensures, c.if-is_map.true, lt-ltb _ _ c.if-at-lt-SEATS.true, ← c.tuning_of.ensures, ← c.tick_at.ensures)

pub returns-then-is_map : goal.returns-then-is_map
unfolding tick
returns-then-is_map c = simp (← c.is_map.ensures, c.if-is_map.true, le-ltb _ _ c.if-at-lt-SEATS.false)

pub returns : goal.returns
unfolding tick
returns c = simp (← c.is_map.ensures, c.if-is_map.false)
