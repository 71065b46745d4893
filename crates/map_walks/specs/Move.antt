-- `move_box` of lib.rs. Definitions only.
use Rattle.std.specs.Prelude.{ℕ, ◌+◌, cond, ◌||◌, List, leb, pos, Float, Result, Ok, Err}
use Rattle.std.specs.Float.{binary32}
use Rattle.std.specs.Float.Ieee.{div, lt, of_bits}
use Rattle.game_refusals.specs.declared.Refusal.{Refusal}
use Rattle.game_refusals.specs.declared.Refusal.TheVariants.{BadMap, TooFar}
use Rattle.num_convert.specs.Whole.{round_to_i32}
use Rattle.num_convert.specs.Convert.{i32_to_f32}
use Rattle.num_convert.specs.Number.{c0, c1}
use Rattle.num_vec2.specs.Vec2.{vnew, vadd, vmul, vlength}
use Rattle.num_vec2.specs.declared.vec2.{vec2}
use Rattle.base_turns.specs.Turns.{fold}
use Rattle.map_tiles.specs.Map.{is_map, count}
use Rattle.map_lines.specs.Limit.{most_turns}
use Rattle.map_tiles.specs.declared.tiles.Sides.{Sides}
use Rattle.map_tiles.specs.Box.{check_box}
use Rattle.map_walks.specs.declared.moves.Body.{Body}

-- 0.00001
abbrev pub least_dist : Float
least_dist = of_bits binary32 0x3727_c5ac

-- the turns of a box that moves by dist: round(dist) + 1, only if dist > 0.00001
unfoldable pub box_turns : Float → ℕ
box_turns dist = cond (lt least_dist dist) (count (round_to_i32 dist) + 1) 0

abbrev pub body_of : Float → Float → Float → Float → Body
body_of x y vel_x vel_y = record { pos = vnew x y; vel = vnew vel_x vel_y }

-- what a turn leaves that meets something solid at new: a coordinate that is in the way stays, and its speed is lost; where neither is, both
unfoldable pub blocked : Sides → List ℕ → Body → vec2 → vec2 → Body
blocked s ts b new box =
    let hit_y = check_box s ts (vnew b.pos.x new.y) box in
    let hit_x = check_box s ts (vnew new.x b.pos.y) box in
    cond (hit_y || hit_x)
    (body_of (cond hit_x b.pos.x new.x) (cond hit_y b.pos.y new.y) (cond hit_x c0 b.vel.x) (cond hit_y c0 b.vel.y))
    (body_of b.pos.x b.pos.y c0 c0)

unfoldable pub box_turn : Sides → List ℕ → Float → vec2 → Body → Body
box_turn s ts fraction box b =
    let new = vadd b.pos (vmul b.vel fraction) in
    cond (check_box s ts new box) (blocked s ts b new box) (record { pos = new; vel = b.vel })

unfoldable pub box_turns_taken : Sides → List ℕ → Body → vec2 → ℕ → Body
box_turns_taken s ts b box n = fold (λ i. box_turn s ts (div binary32 c1 (i32_to_f32 (pos n))) box) n 0 b

-- the walk on a map that is one: 9 where it is too far
unfoldable pub walk_box : Sides → List ℕ → vec2 → vec2 → vec2 → Result Body Refusal
walk_box s ts at vel box =
    let turns = box_turns (vlength vel) in
    cond (leb turns most_turns) (Ok (box_turns_taken s ts (record { pos = at; vel = vel }) box turns)) (Err TooFar)

-- refused with 1 where the map is none, before the walk is measured
unfoldable pub move_box : Sides → List ℕ → vec2 → vec2 → vec2 → Result Body Refusal
move_box s ts at vel box = cond (is_map s ts) (walk_box s ts at vel box) (Err BadMap)
