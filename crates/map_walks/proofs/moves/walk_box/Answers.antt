use borrow.Author.Tests.{lt-leb, le-leb}
use Rattle.map_walks.specs.Move.{walk_box}
use borrow.Author.Rules.{rules}
use Rattle.map_walks.proofs.moves.walk_box.Goals as goal

pub returns-then-turns-gt-MOST_TURNS : goal.returns-then-turns-gt-MOST_TURNS
unfolding walk_box
returns-then-turns-gt-MOST_TURNS c = simp (← c.length.ensures, ← c.box_turns-turns.ensures, lt-leb _ _ c.if-turns-gt-MOST_TURNS.true)

pub returns : goal.returns
unfolding walk_box
returns c = simp (← c.length.ensures, ← c.box_turns-turns.ensures, le-leb _ _ c.if-turns-gt-MOST_TURNS.false, ← c.box_turns_taken.ensures)
