use Prim.Native.Nat.{◌-◌, ◌<◌, ◌^◌}
use native.Mathlib.Omega.{arith}
use Rattle.text_decimal.proofs.Minus.{minus_fits, below_fits, below_is}
use Rattle.text_decimal.proofs.signed.minus.Goals.{Start}
use Rattle.text_decimal.proofs.signed.minus.Goals as goal

small : (c : Start) → c.args.n - 1 < 2 ^ 31
small c = omega arith

pub overflow_sub-result : goal.overflow_sub-result
overflow_sub-result c = minus_fits _ (small c)

pub overflow_sub-result-2 : goal.overflow_sub-result-2
overflow_sub-result-2 c = below_fits _ (small c)

pub returns : goal.returns
returns c = below_is _ (small c)
