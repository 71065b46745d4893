-- The way of a box over tiles that are not solid, on which its turns are sums alone. Definitions only.
use Rattle.std.specs.Prelude.{ℕ, zero, suc, ◌+◌, ◌-◌, Bool, false, not, cond, ◌&&◌, ◌||◌, List, Float}
use Rattle.std.specs.Float.{binary32}
use Rattle.std.specs.Float.Ieee.{add, sub, le, eq, of_bits}
use Rattle.num_convert.specs.Number.{c0}
use Rattle.num_vec2.specs.Vec2.{vnew, vadd, vmul}
use Rattle.num_vec2.specs.declared.vec2.{vec2}
use Rattle.base_turns.specs.Turns.{fold}
use Rattle.map_corners.specs.Tile.{tile_at}
use Rattle.map_tiles.specs.Map.{tile_in, solid}
use Rattle.map_tiles.specs.Box.{half, check_box}
use Rattle.map_tiles.specs.declared.tiles.Sides.{Sides}
use Rattle.map_walks.specs.Move.{box_turn, body_of}
use Rattle.map_walks.specs.declared.moves.Body.{Body}
use Rattle.map_walks.specs.declared.way.Span.{Span}

-- n turns of a box, each with the same fraction of its velocity
unfoldable pub turns_taken : Sides → List ℕ → Float → vec2 → ℕ → Body → Body
turns_taken s ts fraction box n b = fold (λ i. box_turn s ts fraction box) n 0 b

-- the body where it is, with no velocity
abbrev pub at_rest : Body → Body
at_rest b = body_of b.pos.x b.pos.y c0 c0

-- where a turn leads
abbrev pub new_pos : Float → Body → vec2
new_pos fraction b = vadd b.pos (vmul b.vel fraction)

-- a turn in y alone meets a solid tile
abbrev pub hit_y : Sides → List ℕ → Float → vec2 → Body → Bool
hit_y s ts fraction box b = check_box s ts (vnew b.pos.x (new_pos fraction b).y) box

-- a turn in x alone meets a solid tile
abbrev pub hit_x : Sides → List ℕ → Float → vec2 → Body → Bool
hit_x s ts fraction box b = check_box s ts (vnew (new_pos fraction b).x b.pos.y) box

-- a turn meets a solid tile, and in each coordinate alone
unfoldable pub is_stuck : Sides → List ℕ → Float → vec2 → Body → Bool
is_stuck s ts fraction box b = check_box s ts (new_pos fraction b) box && (hit_y s ts fraction box b && hit_x s ts fraction box b)

-- a body without velocity is stuck, and stuck again after that turn
unfoldable pub stays_at_rest : Sides → List ℕ → Float → vec2 → Body → Bool
stays_at_rest s ts fraction box b = eq b.vel.x c0 && (eq b.vel.y c0 && (is_stuck s ts fraction box b && is_stuck s ts fraction box (at_rest b)))

-- where n steps from p lead
unfoldable pub way_end : vec2 → vec2 → ℕ → vec2
way_end p step n = fold (λ i q. vadd q step) n 0 p

-- 1024.0
abbrev pub c1024 : Float
c1024 = of_bits binary32 0x4480_0000

-- what a span is known for: an end that is a number, and half a side of a box from 0 to 1,024, which makes no sum a not-a-number
unfoldable pub has_span : Float → Float → Bool
has_span h b = le c0 h && le h c1024 && le b b

-- the tiles along a side from the lower edge of a box at lo to the upper edge of it at hi, each h from its middle
abbrev pub span_from : ℕ → Float → Float → Float → Span
span_from side h lo hi = record { first = tile_at side (sub binary32 lo h); last = tile_at side (add binary32 hi h) }

-- the same between a and b, whichever is the lower
unfoldable pub span_of : ℕ → Float → Float → Float → Span
span_of side h a b = cond (le a b) (span_from side h a b) (span_from side h b a)

-- whether f is true of one of the n numbers from i on
unfoldable pub any : (ℕ → Bool) → ℕ → ℕ → Bool
any f zero i = false
any f (suc n) i = f i || any f n (suc i)

-- whether it is of one from first to last
abbrev pub any_in : (ℕ → Bool) → Span → Bool
any_in f k = any f (k.last + 1 - k.first) k.first

-- whether row r has a solid tile in these columns, and whether one of these rows has
unfoldable pub solid_in_row : Sides → List ℕ → Span → ℕ → Bool
solid_in_row s ts columns r = any_in (λ c. solid (tile_in s ts c r)) columns

unfoldable pub solid_among : Sides → List ℕ → Span → Span → Bool
solid_among s ts columns rows = any_in (solid_in_row s ts columns) rows

-- whether a way from a to b is seen to be clear: no tile that the box can be over is solid
unfoldable pub is_clear_way : Sides → List ℕ → vec2 → vec2 → vec2 → Bool
is_clear_way s ts a b box =
    let h = vmul box half in
    let columns = span_of s.width h.x a.x b.x in
    let rows = span_of s.height h.y a.y b.y in
    has_span h.x b.x && has_span h.y b.y && not (solid_among s ts columns rows)
