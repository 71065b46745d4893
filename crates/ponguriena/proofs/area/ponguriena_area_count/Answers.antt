use mir.Facts.{to_z-of_z}
use borrow.Author.Rules.{rules}
use Rattle.ponguriena.proofs.area.ponguriena_area_count.Goals as goal

pub returns : goal.returns
returns c = let f = c.ranges in rw (c.answer_with.ensures.0, c.answer_with.ensures.1) (rw (to_z-of_z f.left, to_z-of_z f.top, to_z-of_z f.columns, to_z-of_z f.rows) at (c.area.ensures c.args.count.now))
