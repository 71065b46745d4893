use mir.Facts.{to_z-of_z}
use borrow.Author.Rules.{rules}
use Rattle.character.proofs.from_record.pair_of_256ths.Goals as goal

pub returns : goal.returns
returns c = simp (c.new.ensures, c.from_256ths-2.ensures, c.from_256ths.ensures, to_z-of_z c.ranges.x, to_z-of_z c.ranges.y)
