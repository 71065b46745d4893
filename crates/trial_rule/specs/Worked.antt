-- A trial, worked: the claims are not hollow. Definitions only; proofs/Worked.antt computes it.
use Rattle.std.specs.Prelude.{ℕ, List, [], ◌∷◌, ◌++◌, ◌≡◌, ℤ, pos, negsuc, replicate}
use Rattle.map_tiles.specs.declared.tiles.Sides.{Sides}
use Rattle.game_tuning.specs.Tuning.{fresh_tunings}
use Rattle.trial_rule.specs.Calls.{trial_in}

-- two by two open tiles
abbrev pub sides : Sides
sides = record { width = 2; height = 2 }

abbrev pub tiles : List ℕ
tiles = replicate 4 0

-- id 0 at (30, 30), id 1 far to the right at (1000, 40)
abbrev pub joins : List ℤ
joins = pos 0 ∷ pos 30 ∷ pos 30 ∷ pos 1 ∷ pos 1000 ∷ pos 40 ∷ []

-- the tile (1, 1), and the one above it; both beyond the map, and clamped to it
abbrev pub targets : List ℤ
targets = pos 5 ∷ pos 9 ∷ pos 1 ∷ negsuc 6 ∷ []

-- a tuning whose ramp makes of every speed one that is too far
abbrev pub steep_ramp : List ℤ
steep_ramp = pos 1000 ∷ pos 200 ∷ pos 50 ∷ pos 1320 ∷ pos 1200 ∷ pos 500 ∷ pos 150 ∷ pos 95 ∷ pos 38000 ∷ pos 8000 ∷ pos 300 ∷ pos 1500 ∷ pos 50 ∷ pos 0 ∷ pos 100 ∷ pos 1 ∷ pos 100 ∷ pos 100 ∷ pos 60 ∷ []

pub record Worked : Type 0 where
  -- id 0 goes right and falls: two tiles away at the start, one after step 1, on its target after step 3; id 1 is below its target, and its x stays in step 1, so it jumps in step 2, which brings it there;
  -- under the other tuning the first step is refused, so that the start is the nearest
  pub told : trial_in 2 sides tiles joins targets (fresh_tunings ++ steep_ramp) (pos 3) (replicate 14 (pos 77)) ≡ record { number = 0; result = pos 3 ∷ pos 1 ∷ pos 0 ∷ pos 3 ∷ pos 1 ∷ pos 0 ∷ pos 2 ∷ pos 0 ∷ pos 1 ∷ pos 2 ∷ pos 0 ∷ pos 1 ∷ pos 1 ∷ pos 0 ∷ [] }
