-- `check_line` of lib.rs. Definitions only.
use Rattle.std.specs.Prelude.{ℕ, cond, List, leb, pos, Float, Option, Some, None, Result, Ok, Err}
use Rattle.std.specs.Float.{binary32}
use Rattle.std.specs.Float.Ieee.{add, div}
use Rattle.game_refusals.specs.declared.Refusal.{Refusal}
use Rattle.game_refusals.specs.declared.Refusal.TheVariants.{BadMap, TooFar}
use Rattle.num_convert.specs.Whole.{trunc_to_i32}
use Rattle.num_convert.specs.Convert.{i32_to_f32}
use Rattle.num_convert.specs.Number.{c1}
use Rattle.num_vec2.specs.Vec2.{vdistance, vmix}
use Rattle.num_vec2.specs.declared.vec2.{vec2}
use Rattle.base_turns.specs.Turns.{Turn, more, stop, run}
use Rattle.map_tiles.specs.Map.{is_map, count, check_point}
use Rattle.map_lines.specs.Limit.{most_turns}
use Rattle.map_tiles.specs.declared.tiles.Sides.{Sides}
use Rattle.map_tiles.specs.declared.point.Tile.{Tile}
use Rattle.map_tiles.specs.declared.point.Tile.TheVariants.{Open, Normal, Deadly, Unhookable}

-- the turns of a line of length dist: trunc(dist + 1)
unfoldable pub line_turns : Float → ℕ
line_turns dist = count (trunc_to_i32 (add binary32 dist c1))

-- a point that is open or deadly goes on; one that is solid ends the walk, with its tile
abbrev pub or_hit : vec2 → Tile → Turn (Unit {0}) (vec2 × Tile)
or_hit p Open = more tt
or_hit p Normal = stop (p, Normal)
or_hit p Deadly = more tt
or_hit p Unhookable = stop (p, Unhookable)

-- the point i / dist of the way, dist and not the number of turns being what the Rust divides by
unfoldable pub line_turn : Sides → List ℕ → vec2 → vec2 → Float → ℕ → Unit {0} → Turn (Unit {0}) (vec2 × Tile)
line_turn s ts from to dist i u = let p = vmix from to (div binary32 (i32_to_f32 (pos i)) dist) in or_hit p (check_point s ts p)

abbrev pub or_nothing : Turn (Unit {0}) (vec2 × Tile) → Option (vec2 × Tile)
or_nothing (more u) = None
or_nothing (stop h) = Some h

unfoldable pub line_hit : Sides → List ℕ → vec2 → vec2 → Float → ℕ → Option (vec2 × Tile)
line_hit s ts from to dist n = or_nothing (run (line_turn s ts from to dist) n 0 tt)

-- the walk on a map that is one: 9 where it is too far
unfoldable pub walk_line : Sides → List ℕ → vec2 → vec2 → Result (Option (vec2 × Tile)) Refusal
walk_line s ts from to =
    let dist = vdistance from to in
    cond (leb (line_turns dist) most_turns) (Ok (line_hit s ts from to dist (line_turns dist))) (Err TooFar)

-- refused with 1 where the map is none, before the walk is measured
unfoldable pub check_line : Sides → List ℕ → vec2 → vec2 → Result (Option (vec2 × Tile)) Refusal
check_line s ts from to = cond (is_map s ts) (walk_line s ts from to) (Err BadMap)
