-- What `move_` of lib.rs asks of its own character: the ramp, the box's walk, and the turns of the walk among others. Definitions only.
use Rattle.std.specs.Prelude.{ℕ, ◌+◌, cond, List, Float, Result, Ok, Err}
use Rattle.std.specs.Float.{binary32}
use Rattle.std.specs.Float.Ieee.{mul, div, lt, of_bits}
use Rattle.num_convert.specs.Whole.{trunc_to_i32}
use Rattle.num_convert.specs.Number.{c0, c1}
use Rattle.num_vec2.specs.Vec2.{vnew, vlength, vdistance}
use Rattle.num_vec2.specs.declared.vec2.{vec2}
use Rattle.map_tiles.specs.Map.{count}
use Rattle.map_tiles.specs.declared.tiles.Sides.{Sides}
use Rattle.map_tiles.specs.Box.{character_box}
use Rattle.map_walks.specs.Move.{walk_box}
use Rattle.map_walks.specs.declared.moves.Body.{Body}
use Rattle.game_refusals.specs.declared.Refusal.{Refusal}
use Rattle.num_ramp.specs.Ramp.{velocity_ramp}
use Rattle.game_tuning.specs.declared.Tuning.{Tuning}

-- 50.0: the ramp is by the velocity per second
abbrev pub c50 : Float
c50 = of_bits binary32 0x4248_0000

-- the velocity sideways times 1.0 / ramp, where the box has moved
abbrev pub unramped : Float → Result Body Refusal → Result Body Refusal
unramped ramp (Err e) = Err e
unramped ramp (Ok b) = Ok (record { pos = b.pos; vel = vnew (mul binary32 b.vel.x (div binary32 c1 ramp)) b.vel.y })

-- the box moves with the velocity sideways ramped
unfoldable pub ramped_move : Sides → List ℕ → vec2 → vec2 → Tuning → Result Body Refusal
ramped_move s ts p v t =
    let ramp = velocity_ramp (mul binary32 (vlength v) c50) t.velramp_start t.velramp_range t.velramp_curvature in
    unramped ramp (walk_box s ts p (vnew (mul binary32 v.x ramp) v.y) character_box)

-- trunc(distance) + 1
unfoldable pub player_turns : Float → ℕ
player_turns distance = count (trunc_to_i32 distance) + 1

-- where a character stays that meets one at q: where it was the turn before; in the first turn at the end, if that is further away, else at the start
unfoldable pub rest_at : Float → vec2 → vec2 → vec2 → vec2 → vec2 → vec2
rest_at fraction last from to p q = cond (lt c0 fraction) last (cond (lt (vdistance p q) (vdistance to q)) to from)
