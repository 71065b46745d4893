use mir.Facts.{to_z-of_z}
use borrow.Author.Rules.{rules}
use Rattle.character.proofs.from_record.whole_pair.Goals as goal

pub returns : goal.returns
returns c = simp (c.new.ensures, c.i32_to_f32-2.ensures, c.i32_to_f32.ensures, to_z-of_z c.ranges.x, to_z-of_z c.ranges.y)
