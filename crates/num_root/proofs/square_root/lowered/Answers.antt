use native.Mathlib.Omega.{arith}
use Rattle.num_root.proofs.Squares.{sq_pos, sq_fits}
use Rattle.num_root.proofs.square_root.lowered.Goals as goal

pub loop-r-init : goal.loop-r-init
loop-r-init c = omega arith

pub overflow_mul-r : goal.overflow_mul-r
overflow_mul-r c = record { fits = sq_fits c.loop-r.r (omega arith) }

pub overflow_sub-r : goal.overflow_sub-r
overflow_sub-r c = omega (arith, sq_pos _ _ c.loop-r-test.true)

pub loop-r-smaller : goal.loop-r-smaller
loop-r-smaller c = omega (arith, sq_pos _ _ c.loop-r-test.true)

pub loop-r-preserved : goal.loop-r-preserved
loop-r-preserved c = omega arith

pub returns : goal.returns
returns c = c.loop-r-test.false
