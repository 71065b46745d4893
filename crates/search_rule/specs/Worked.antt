-- A search, worked: the claim is not hollow. Definitions only; proofs/Worked.antt computes it.
use Rattle.std.specs.Prelude.{[], ◌∷◌, ◌≡◌, pos, negsuc}
use Rattle.world.specs.World.{fresh}
use Rattle.world.specs.Run.{after}
use Rattle.world.specs.declared.World.{World}
use Rattle.world.specs.declared.call.Call.TheVariants.{Join}
use Rattle.world_solo.specs.Worked.{sides, tiles}
use Rattle.search_rule.specs.Search.{WayTo, search}

-- id 0 at (0, 0), on one open tile
abbrev pub joined : World
joined = after 1 sides tiles (fresh 1) (Join (pos 0) (pos 0) (pos 0) ∷ [])

pub record Worked : Type 0 where
  -- it falls to (0, 1) where nothing is pressed, and pressing left doesn't lead there
  pub falls : search 1 sides tiles joined (pos 0) (pos 0) (pos 1) ≡ WayTo (record { direction = pos 0; jump = pos 0 } ∷ [])
  -- a jump to the left is slower than a fall to the left: its speed is ramped
  pub jumps : search 1 sides tiles joined (pos 0) (negsuc 0) (negsuc 11) ≡ WayTo (record { direction = negsuc 0; jump = pos 1 } ∷ [])
