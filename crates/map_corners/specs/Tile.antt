-- The tile that a coordinate is on. Definitions only.
use Rattle.std.specs.Prelude.{ℕ, ◌-◌, min, ℤ, pos, negsuc, Float}
use Rattle.std.specs.Int.Signed.{shr_z}
use Rattle.std.specs.Float.{binary32}
use Rattle.std.specs.Float.Ieee.{of_bits}
use Rattle.num_convert.specs.Whole.{round_to_i32}

-- 14.0, half a character's box
abbrev pub c14 : Float
c14 = of_bits binary32 0x4160_0000

-- from 0 to hi
abbrev pub clamp_to : ℕ → ℤ → ℕ
clamp_to hi (pos n) = min n hi
clamp_to hi (negsuc n) = 0

-- the tile, of w along a side, of a coordinate that was rounded: divided by 32 rounding down, and clamped to the map
unfoldable pub tile_of : ℕ → ℤ → ℕ
tile_of w z = clamp_to (w - 1) (shr_z z 32)

-- the point rule of a coordinate
unfoldable pub tile_at : ℕ → Float → ℕ
tile_at w x = tile_of w (round_to_i32 x)
