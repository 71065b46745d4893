use Prim.Native.Nat.{◌*◌, ◌^◌, ◌≤◌}
use native.Mathlib.Nat.{le_of_lt, mul-le-mul_left}
use native.Mathlib.Omega.{arith}
use Rattle.num_root.proofs.square_root.scaled.Goals.{Start}
use Rattle.num_root.proofs.square_root.scaled.Goals as goal

product : (c : Start) → c.args.a * c.args.b ≤ c.args.a * 2 ^ 19
product c = mul-le-mul_left c.args.a (le_of_lt c.requires.1)

pub overflow_mul-result : goal.overflow_mul-result
overflow_mul-result c = omega (arith, product c)

pub returns : goal.returns
returns c = omega (arith, product c)
