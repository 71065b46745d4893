-- Proved case 10 of document 01: a line of length 0 is tested at one point, which is not a number and so on tile (0, 0). Assumes nothing.
use mathlib.Core.Path.{◌≡◌, refl}
use Rattle.std.specs.Prelude.{Some, Ok}
use mathlib.Core.List.{[], ◌∷◌}
use lib.Ieee.{nan, binary32, of_bits, of_int, add, sub, mul, div, neg}
use Rattle.num_root.specs.Root.{root, root_of}
use Rattle.num_convert.specs.Whole.{whole_of}
use Rattle.num_convert.specs.Convert.{i32_to_f32}
use Rattle.num_vec2.specs.declared.vec2.{vec2}
use Rattle.num_vec2.specs.Vec2.{vnew, vadd, vsub, vmul, vlength, vdistance, vmix}
use Rattle.map_corners.specs.Tile.{tile_of, tile_at}
use Rattle.map_tiles.specs.declared.point.Tile.TheVariants.{Normal}
use Rattle.map_tiles.specs.Map.{is_side, is_map, tile_in, check_point}
use Rattle.base_turns.specs.Turns.{run}
use Rattle.map_lines.specs.Line.{line_turns, line_turn, line_hit, walk_line, check_line}

-- (100.0, 100.0), which is on tile (1, 1) of two by two
abbrev start : vec2
start = vnew (of_bits binary32 0x42c8_0000) (of_bits binary32 0x42c8_0000)

-- on a map of two by two of which only tile (0, 0) is solid
pub at_the_first_tile : check_line (record { width = 2; height = 2 }) (1 ∷ 0 ∷ 0 ∷ 0 ∷ []) start start ≡ Ok (Some (vnew nan nan, Normal))
unfolding check_line walk_line line_hit line_turn line_turns run is_map is_side check_point tile_in tile_at tile_of vdistance vlength vmix vadd vsub vmul root root_of whole_of i32_to_f32 of_bits of_int add sub mul div neg
at_the_first_tile = refl
