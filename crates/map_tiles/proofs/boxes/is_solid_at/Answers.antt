use borrow.Author.Rules.{rules}
use Rattle.map_tiles.specs.Map.{tile_in}
use Rattle.map_tiles.proofs.boxes.is_solid_at.Goals as goal

pub returns : goal.returns
unfolding tile_in
returns c = simp (← c.before.before.tile_in.ensures, ← c.is_solid.ensures)
