-- Reading byte by byte, as the code goes. `at` is the place of the first byte that is left. Assumes nothing.
use Prim.Native.Nat.{ℕ, ◌+◌, ◌-◌, ◌*◌}
use mathlib.Core.Bool.{cond}
use mathlib.Core.List.{List, [], ◌∷◌}
use lib.Dec.{ltb, eqb}
use lib.IntN.{ℤ, pos, negsuc}
use Rattle.std.specs.declared.option.Option.{Option}
use Rattle.std.specs.declared.option.Option.TheVariants.{None, Some}

-- after digits that stand for n: the byte `stop` ends the number; another digit goes on with it, but not after a lone 0 and not above 2^31
abbrev pub more : ℕ → ℕ → ℕ → List ℕ → Option (ℕ × ℕ)
more stop n at [] = None
more stop n at (b ∷ s) =
    cond (eqb b stop)
    (Some (n, at + 1))
    (cond (eqb n 0)
    None
    (cond (ltb b 48)
    None
    (cond (ltb 57 b) None (cond (ltb 2147483648 (n * 10 + (b - 48))) None (more stop (n * 10 + (b - 48)) (at + 1) s)))))

-- a number, from its first digit on
abbrev pub scan_number : ℕ → ℕ → List ℕ → Option (ℕ × ℕ)
scan_number stop at [] = None
scan_number stop at (b ∷ s) = cond (ltb b 48) None (cond (ltb 57 b) None (more stop (b - 48) (at + 1) s))

-- a value: a number below 2^31, or a minus sign and a number that is not 0
abbrev pub plus : Option (ℕ × ℕ) → Option (ℤ × ℕ)
plus (Some (n, next)) = cond (ltb n 2147483648) (Some (pos n, next)) None
plus None = None

abbrev pub minus : Option (ℕ × ℕ) → Option (ℤ × ℕ)
minus (Some (n, next)) = cond (eqb n 0) None (Some (negsuc (n - 1), next))
minus None = None

abbrev pub scan_value : ℕ → ℕ → List ℕ → Option (ℤ × ℕ)
scan_value stop at [] = None
scan_value stop at (b ∷ s) = cond (eqb b 45) (minus (scan_number stop (at + 1) s)) (plus (scan_number stop at (b ∷ s)))
