use mir.Facts.{to_z-of_z}
use Rattle.world.specs.Calls.{point_of}
use borrow.Author.Rules.{rules}
use Rattle.world_joins.proofs.joins.point_of.Goals as goal

pub returns : goal.returns
unfolding point_of
returns c =
    let a = c in
    simp (c.new.ensures, c.i32_to_f32-2.ensures, c.i32_to_f32.ensures, to_z-of_z a.ranges.x, to_z-of_z a.ranges.y)
