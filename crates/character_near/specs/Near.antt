-- The player walk among m places: up to the first turn that touches one of them. Definitions only.
use Rattle.std.specs.Prelude.{ℕ, zero, suc, cond, List, pos, get_or, Float}
use Rattle.std.specs.Float.{nan, binary32}
use Rattle.std.specs.Float.Ieee.{div}
use Rattle.base_turns.specs.Turns.{Turn, more, stop, next, run}
use Rattle.num_convert.specs.Convert.{i32_to_f32}
use Rattle.num_vec2.specs.Vec2.{vnew, vmix}
use Rattle.num_vec2.specs.declared.vec2.{vec2}
use Rattle.map_lines.specs.Points.{point_at}
use Rattle.character_walk.specs.Touching.{touches}
use Rattle.character_walk.specs.Walking.{rest_at}

-- the place j of two lists of coordinates
abbrev pub place_at : List Float → List Float → ℕ → vec2
place_at xs ys j = vnew (get_or xs j nan) (get_or ys j nan)

-- the first touched place ends the walk
abbrev pub near_turn : List Float → List Float → vec2 → vec2 → vec2 → Float → vec2 → ℕ → Unit {0} → Turn (Unit {0}) vec2
near_turn xs ys from to last fraction p k u = cond (touches p (place_at xs ys k)) (stop (rest_at fraction last from to p (place_at xs ys k))) (more tt)

-- a point of the way, against the m places
abbrev pub near_walk_turn : ℕ → List Float → List Float → vec2 → vec2 → Float → ℕ → vec2 → Turn vec2 vec2
near_walk_turn m xs ys from to distance i last =
    let fraction = div binary32 (i32_to_f32 (pos i)) distance in
    let p = vmix from to fraction in
    next (λ u. more p) (run (near_turn xs ys from to last fraction p) m 0 tt)

-- where a walk to `to` ends
abbrev pub or_to : vec2 → Turn vec2 vec2 → vec2
or_to to (more p) = to
or_to to (stop p) = p

unfoldable pub walk_near : ℕ → List Float → List Float → vec2 → vec2 → Float → ℕ → vec2
walk_near m xs ys from to distance turns = or_to to (run (near_walk_turn m xs ys from to distance) turns 0 from)

-- the point of the turn before i; the start before the first
abbrev pub point_before : vec2 → vec2 → Float → ℕ → vec2
point_before from to distance zero = from
point_before from to distance (suc i) = point_at from to distance i
