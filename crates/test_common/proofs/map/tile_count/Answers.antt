use Rattle.std.proofs.Common.{◌*◌, ◌≤◌, ap₂, le_trans, le_of_lt, mul-le-mul_right, mul-le-mul_left, arith}
use Rattle.test_common.proofs.map.tile_count.Goals.{After-height}
use Rattle.test_common.proofs.map.tile_count.Goals as goal

product : (c : After-height) → c.width.result * c.height.result ≤ 256 * 256
product c = le_trans (mul-le-mul_right c.height.result (le_of_lt c.width.ensures.1)) (mul-le-mul_left 256 (le_of_lt c.height.ensures.1))

pub overflow_mul-result : goal.overflow_mul-result
overflow_mul-result c = omega (arith, product c)

pub overflow_cast-result : goal.overflow_cast-result
overflow_cast-result c = omega (arith, product c)

pub returns : goal.returns
returns c = ap₂ ◌*◌ c.width.ensures.0 c.height.ensures.0
