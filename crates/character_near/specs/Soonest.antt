-- The first turn of a player walk that touches one of k places. Definitions only.
use Rattle.std.specs.Prelude.{ℕ, ◌≤◌, ◌<◌, ◌≡◌, Bool, true, false, List, Float}
use Rattle.num_vec2.specs.declared.vec2.{vec2}
use Rattle.map_lines.specs.Points.{point_at}
use Rattle.character_walk.specs.Touching.{touches}
use Rattle.character_near.specs.Near.{place_at}

-- turn i touches the place j
abbrev pub touched : List Float → List Float → vec2 → vec2 → Float → ℕ → ℕ → Bool
touched xs ys from to distance i j = touches (point_at from to distance i) (place_at xs ys j)

-- no turn before `turn` touches one of the first k places; that turn, if it is one of the walk, touches `place` and no place before it
pub record Soonest (xs ys : List Float) (from to : vec2) (distance : Float) (turns k turn place : ℕ) : Type 0 where
  pub within : turn ≤ turns
  pub before : (i j : ℕ) → i < turn → j < k → touched xs ys from to distance i j ≡ false
  pub place_is : turn < turns → place < k
  pub place_touched : turn < turns → touched xs ys from to distance turn place ≡ true
  pub place_first : turn < turns → (j : ℕ) → j < place → touched xs ys from to distance turn j ≡ false
