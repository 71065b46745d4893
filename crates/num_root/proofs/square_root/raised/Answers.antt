use Prim.Native.Nat.{◌+◌, ◌^◌, ◌<◌}
use native.Mathlib.Omega.{arith}
use Rattle.num_root.proofs.Squares.{small, sq_fits}
use Rattle.num_root.proofs.square_root.raised.Goals.{At-loop-r}
use Rattle.num_root.proofs.square_root.raised.Goals as goal

-- every r that the loop reaches is below 2 ^ 25
bound : (c : At-loop-r) → c.loop-r.r < 2 ^ 25
bound c = small _ _ c.loop-r.invariant c.before.requires.0

pub overflow_add-r : goal.overflow_add-r
overflow_add-r c = omega (arith, bound c)

pub overflow_add-r-in-loop-r : goal.overflow_add-r-in-loop-r
overflow_add-r-in-loop-r c = omega (arith, bound c)

pub overflow_mul-r : goal.overflow_mul-r
overflow_mul-r c = record { fits = sq_fits (c.loop-r.r + 1) (omega (arith, bound c)) }

pub overflow_add-r-in-loop-r-2 : goal.overflow_add-r-in-loop-r-2
overflow_add-r-in-loop-r-2 c = omega (arith, bound c.before)

pub loop-r-smaller : goal.loop-r-smaller
loop-r-smaller c = omega (arith, bound c.before)

pub loop-r-preserved : goal.loop-r-preserved
loop-r-preserved c = c.loop-r-test.true

pub returns : goal.returns
returns c = (c.before.loop-r.invariant, c.loop-r-test.false)
