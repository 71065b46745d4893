use Prim.Native.Nat.{ℕ, ◌+◌, ◌-◌, ◌*◌, ◌≤◌, ◌<◌}
use mathlib.Core.Path.{◌≡◌}
use native.Mathlib.Nat.{mul-add, add-mul, mul-one, one-mul}
use native.Mathlib.Omega.{arith}
use Rattle.num_root.proofs.Squares.{sq_fits}
use Rattle.num_root.proofs.square_root.isqrt.Goals as goal

-- what is left of n is at most 2 * s, so that n is below the next square
below_next : (n s : ℕ) → s * s ≤ n → n - s * s ≤ 2 * s → n < (s + 1) * (s + 1)
below_next n s h k =
    let e : (s + 1) * (s + 1) ≡ s * s + s + (s + 1) = simp (mul-add, add-mul, mul-one, one-mul) (omega arith) in
    omega arith

pub overflow_mul-q : goal.overflow_mul-q
overflow_mul-q c = record { fits = sq_fits c.args.guess (omega arith) }

pub returns-then-n-q : goal.returns-then-n-q
returns-then-n-q c = (c.before.if-q-n.true, below_next _ _ c.before.if-q-n.true c.if-n-q.true)
