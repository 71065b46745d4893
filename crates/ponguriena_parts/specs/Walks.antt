-- What the walks leave behind the references that they are lent. Definitions only.
use Rattle.std.specs.Prelude.{ℕ, Float}
use Rattle.num_vec2.specs.declared.vec2.{vec2}
use Rattle.num_vec2.specs.Vec2.{vnew}
use Rattle.map_tiles.specs.declared.point.Tile.{Tile}
use Rattle.map_tiles.specs.declared.point.Tile.TheVariants.{Open, Normal, Deadly, Unhookable}
use Rattle.map_walks.specs.declared.moves.Body.{Body}
use Rattle.std.specs.Prelude.{Option, None, Result, Ok, Err}
use Rattle.game_refusals.specs.declared.Refusal.{Refusal}
use Rattle.std.specs.Prelude.{Some}

-- the body that a move leaves, or the one that was handed in where it is refused
abbrev pub body_or : Float → Float → Float → Float → Result Body Refusal → Body
body_or x y vx vy (Err e) = record { pos = vnew x y; vel = vnew vx vy }
body_or x y vx vy (Ok b) = b

-- the point that is hit, or the one that was handed in
abbrev pub point_or : Float → Float → Result (Option (vec2 × Tile)) Refusal → vec2
point_or x y (Err e) = vnew x y
point_or x y (Ok None) = vnew x y
point_or x y (Ok (Some (p, t))) = p

-- a tile by its byte on the map
abbrev pub byte_of : Tile → ℕ
byte_of Open = 0
byte_of Normal = 1
byte_of Deadly = 2
byte_of Unhookable = 3

-- the tile that is hit, 0 where none is, and what was handed in where the check is refused
abbrev pub tile_or : ℕ → Result (Option (vec2 × Tile)) Refusal → ℕ
tile_or n (Err e) = n
tile_or n (Ok None) = 0
tile_or n (Ok (Some (p, t))) = byte_of t
