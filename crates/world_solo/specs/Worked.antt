-- Two solo heats, worked: the claim is not hollow. Definitions only; proofs/Worked.antt computes them.
use Rattle.std.specs.Prelude.{ℕ, List, [], ◌∷◌, ◌++◌, map, ◌≡◌, ℤ, pos, negsuc}
use Rattle.map_tiles.specs.declared.tiles.Sides.{Sides}
use Rattle.world.specs.declared.call.Call.{Call}
use Rattle.world.specs.declared.call.Call.TheVariants.{Join, Input, Step, Tune}
use Rattle.world.specs.World.{fresh}
use Rattle.world_solo.specs.Solo.{without_other, SoloHeat, Seen, seen}

-- one open tile
abbrev pub sides : Sides
sides = record { width = 1; height = 1 }

abbrev pub tiles : List ℕ
tiles = 0 ∷ []

-- player collision and player hooking go to zero
abbrev pub no_collision : Call
no_collision = Tune (pos 16) (pos 0)

abbrev pub no_hooking : Call
no_hooking = Tune (pos 17) (pos 0)

-- id 0 joins at (0, 0) and runs to the right for two steps, beside others
abbrev pub beside : List Call → List Call
beside others = Join (pos 0) (pos 0) (pos 0) ∷ Input (pos 0) (pos 1) (pos 0) (pos 0) (pos 0) (pos 0) ∷ others ++ (Step ∷ Step ∷ [])

-- id 1 stands 10 to the right of it, near enough to be in its way
abbrev pub near : List Call
near = Join (pos 1) (pos 10) (pos 0) ∷ []

-- id 1 stands 100 to the left of it, and hooks to the right
abbrev pub hooking : List Call
hooking = Join (pos 1) (negsuc 99) (pos 0) ∷ Input (pos 1) (pos 0) (pos 1) (pos 0) (pos 0) (pos 1) ∷ []

-- the two heats
abbrev pub heat_a : List Call
heat_a = no_collision ∷ no_hooking ∷ beside near

abbrev pub heat_b : List Call
heat_b = no_collision ∷ no_hooking ∷ beside hooking

-- the x of the records that the steps took of the id k
abbrev pub places : ℕ → List Call → List ℤ
places k cs = map (λ (y : Seen). y.taken.core.x) (seen 2 sides tiles k (fresh 2) cs)

pub record Worked : Type 0 where
  -- both are solo heats, and the same once the calls for id 1 are struck out
  pub solo_a : SoloHeat 2 sides tiles (fresh 2) heat_a
  pub solo_b : SoloHeat 2 sides tiles (fresh 2) heat_b
  pub same : without_other 2 0 heat_a ≡ without_other 2 0 heat_b
  -- id 0 moves, and is at the same places in both
  pub moves_a : places 0 heat_a ≡ pos 2 ∷ pos 5 ∷ []
  pub moves_b : places 0 heat_b ≡ pos 2 ∷ pos 5 ∷ []
  -- id 1 is not
  pub other_a : places 1 heat_a ≡ pos 10 ∷ pos 10 ∷ []
  pub other_b : places 1 heat_b ≡ negsuc 99 ∷ negsuc 99 ∷ []
  -- with player collision as in a fresh world id 0 is pushed away in the one, with player hooking it is held back in the other
  pub pushed : places 0 (no_hooking ∷ beside near) ≡ negsuc 16 ∷ negsuc 21 ∷ []
  pub held : places 0 (no_collision ∷ beside hooking) ≡ pos 0 ∷ pos 1 ∷ []
