use borrow.Author.Tests.{lt-leb, le-leb}
use Rattle.map_tiles.specs.Map.{is_side}
use Rattle.map_tiles.proofs.tiles.is_side.Goals as goal

pub returns-then-n-lt1 : goal.returns-then-n-lt1
unfolding is_side
returns-then-n-lt1 c = simp (lt-leb _ _ c.if-n-lt1.true)

pub returns : goal.returns
unfolding is_side
returns c = simp (le-leb _ _ c.if-n-lt1.false)
