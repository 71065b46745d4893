-- `MoveDirection` and `Angle` of lib.rs. Definitions only.
use Rattle.std.specs.Prelude.{zero, suc, ℤ, pos, negsuc, Float}
use Rattle.std.specs.Float.{binary32}
use Rattle.std.specs.Float.Ieee.{mul}
use Rattle.num_convert.specs.Whole.{trunc_to_i32}
use Rattle.num_convert.specs.Convert.{c256, i32_to_f32, from256ths}
use Rattle.game_input.specs.declared.direction.Angle.{Angle}
use Rattle.game_input.specs.declared.direction.MoveDirection.{MoveDirection}
use Rattle.game_input.specs.declared.direction.MoveDirection.TheVariants.{Left, None, Right}

-- a direction by its sign
unfoldable pub from_int : ℤ → MoveDirection
from_int (negsuc n) = Left
from_int (pos zero) = None
from_int (pos (suc n)) = Right

unfoldable pub as_int : MoveDirection → ℤ
as_int Left = negsuc 0
as_int None = pos 0
as_int Right = pos 1

unfoldable pub as_float : MoveDirection → Float
as_float d = i32_to_f32 (as_int d)

-- an angle in 1/256 radian, cut towards zero
unfoldable pub angle_to_net : Angle → ℤ
angle_to_net a = trunc_to_i32 (mul binary32 a.radians c256)

unfoldable pub angle_from_net : ℤ → Angle
angle_from_net z = record { radians = from256ths z }
