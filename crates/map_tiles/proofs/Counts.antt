-- The turns of `for _ in 0..z` are at most the size of z. Assumes nothing.
use Prim.Native.Nat.{◌≤◌}
use native.Mathlib.Omega.{arith}
use lib.IntN.{ℤ, pos, negsuc}
use lib.Signed.{mag}
use Rattle.map_tiles.specs.Map.{count}

pub count_size : (z : ℤ) → count z ≤ mag z
count_size (pos n) = omega arith
count_size (negsuc n) = omega arith
