-- The sum of two angles. Definitions only.
use Rattle.std.specs.Prelude.{ℤ, pos, ◌-ℤ◌, ◌*ℤ◌, int_div}
use Rattle.aim_angle.specs.declared.near.Point.{Point}

-- (c, s) turned by the angle of (d, t), each on a circle of radius 2^30
unfoldable pub turned : ℤ → ℤ → ℤ → ℤ → Point
turned c s d t = record { c = int_div (c *ℤ d -ℤ s *ℤ t) (pos 1073741824); s = int_div (s *ℤ d -ℤ (pos 0 -ℤ c) *ℤ t) (pos 1073741824) }
