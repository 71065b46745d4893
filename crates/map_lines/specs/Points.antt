-- The points of a way, turn by turn. Definitions only.
use Rattle.std.specs.Prelude.{ℕ, pos, Float}
use Rattle.std.specs.Float.{binary32}
use Rattle.std.specs.Float.Ieee.{div}
use Rattle.num_convert.specs.Convert.{i32_to_f32}
use Rattle.num_vec2.specs.Vec2.{vmix}
use Rattle.num_vec2.specs.declared.vec2.{vec2}

-- the point i / dist of the way, dist and not the number of turns being what the Rust divides by
abbrev pub point_at : vec2 → vec2 → Float → ℕ → vec2
point_at from to dist i = vmix from to (div binary32 (i32_to_f32 (pos i)) dist)
