use mathlib.Core.Path.{sym, ◌∙◌, subst}
use lib.Dec.{T}
use borrow.Author.Tests.{lt-ltb, le-ltb}
use Rattle.character.specs.Walk.{move}
use Rattle.character.proofs.Character.move_.Goals as goal

pub move_among-requires : goal.move_among-requires
move_among-requires c = subst T (sym c.if-is_map.true ∙ c.is_map.ensures) tt

pub returns-then-at-lt-SEATS : goal.returns-then-at-lt-SEATS
unfolding move
returns-then-at-lt-SEATS c = let e = c.move_among.ensures c.args.slots c.places_of-places.ensures in simp (← c.is_map.ensures, c.if-is_map.true, lt-ltb _ _ c.if-at-lt-SEATS.true, ← c.tuning_of-tuning.ensures, ← e)

pub returns-then-is_map : goal.returns-then-is_map
unfolding move
returns-then-is_map c = simp (← c.is_map.ensures, c.if-is_map.true, le-ltb _ _ c.if-at-lt-SEATS.false)

pub returns : goal.returns
unfolding move
returns c = simp (← c.is_map.ensures, c.if-is_map.false)
