-- 'By rising id', worked: steps in which the order of the ticks and of the moves shows. Definitions only; proofs/Order.antt computes them.
use Rattle.std.specs.Prelude.{ℕ, List, [], ◌∷◌, ◌≡◌, ℤ, pos, negsuc}
use Rattle.game_records.specs.declared.CharacterCore.{CharacterCore}
use Rattle.map_tiles.specs.declared.tiles.Sides.{Sides}
use Rattle.world.specs.Demand3.{record_at}
use Rattle.world.specs.Run.{ran, after}
use Rattle.world.specs.World.{fresh}
use Rattle.world.specs.declared.call.Call.{Call}
use Rattle.world.specs.declared.call.Call.TheVariants.{Join, Input, Step, Tune}

-- one open tile
abbrev pub sides : Sides
sides = record { width = 1; height = 1 }

abbrev pub tiles : List ℕ
tiles = 0 ∷ []

-- the record of k that a step takes after these calls, in a fresh world of two slots
abbrev pub taken : List Call → ℕ → CharacterCore
taken cs k = (record_at (ran 2 sides tiles (after 2 sides tiles (fresh 2) cs) Step).records k).core

-- a at (100, 100) hooks b, who stands 100 to the right of it
abbrev pub hooking : ℤ → ℤ → List Call
hooking a b = Join a (pos 100) (pos 100) ∷ Join b (pos 200) (pos 100) ∷ Input a (pos 0) (pos 1) (pos 0) (pos 0) (pos 1) ∷ []

-- a at (100, 100) and b, 36 to the right of it, run to the right by 20 a step
abbrev pub running : ℤ → ℤ → List Call
running a b =
    Join a (pos 100) (pos 100) ∷ Join b (pos 136) (pos 100) ∷ Tune (pos 5) (pos 2000) ∷ Tune (pos 6) (pos 2000)
    ∷ Input a (pos 1) (pos 0) (pos 0) (pos 0) (pos 0) ∷ Input b (pos 1) (pos 0) (pos 0) (pos 0) (pos 0) ∷ []

pub record RisingIds : Type 0 where
  -- id 0 hooks id 1: id 1 is pulled before it ticks, so its friction slows it down
  pub pulled_first : (taken (hooking (pos 0) (pos 1)) 1).vel_x ≡ negsuc 287
  -- id 1 hooks id 0: id 0 has ticked before it is pulled
  pub pulled_last : (taken (hooking (pos 1) (pos 0)) 0).vel_x ≡ negsuc 302
  -- id 0 runs behind id 1, and is stopped where id 1 still stands
  pub stopped : (taken (running (pos 0) (pos 1)) 0).x ≡ pos 108
  -- id 1 runs behind id 0, which has made way
  pub free : (taken (running (pos 1) (pos 0)) 1).x ≡ pos 119
