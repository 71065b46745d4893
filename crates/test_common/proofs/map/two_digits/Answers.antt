use Rattle.std.proofs.Common.{ℕ, ◌+◌, ◌*◌, ap₂, arith}
use Rattle.test_common.proofs.map.two_digits.Goals as goal

pub hex-requires : goal.hex-requires
hex-requires c = tt

pub overflow_mul-result : goal.overflow_mul-result
overflow_mul-result c = omega arith

pub hex-requires-2 : goal.hex-requires-2
hex-requires-2 c = tt

pub overflow_add-result : goal.overflow_add-result
overflow_add-result c = omega arith

pub returns : goal.returns
returns c = (ap₂ (λ (a b : ℕ). a * 16 + b) c.hex.ensures.0 c.hex-2.ensures.0, omega arith)
