-- A press by its bits, which is how the code tests it. Assumes nothing.
use mathlib.Core.Path.{◌≡◌, refl, ap}
use mathlib.Core.Bool.{not}
use Prim.Native.Nat.{suc, ◌-◌, ◌^◌, ◌<◌}
use native.Mathlib.Omega.{arith}
use borrow.Author.Tests.{ne_eqb}
use lib.Dec.{eqb}
use lib.IntN.{ℤ, pos, negsuc}
use lib.Signed.{mag}
use mir.Syntax.{w32}
use mir.Val.{of_z}
use Rattle.game_input.specs.Inputs.{pressed}

pub press_bits : (z : ℤ) → mag z < 2 ^ 31 → not (eqb (of_z w32 z) 0) ≡ pressed z
press_bits (pos n) h = refl
press_bits (negsuc n) h = ap not (ne_eqb (2 ^ 32 - suc n) 0 not_zero)
  where
    not_zero : 2 ^ 32 - suc n ≡ 0 → ⊥
    not_zero e = omega arith
