use mir.Facts.{to_z-of_z}
use borrow.Author.Rules.{rules}
use Rattle.ponguriena.proofs.area.ponguriena_area_change.Goals as goal

pub returns : goal.returns
returns c = let f = c.ranges in rw c.number_of_answer.ensures (rw (to_z-of_z f.column, to_z-of_z f.row) at c.change.ensures)
