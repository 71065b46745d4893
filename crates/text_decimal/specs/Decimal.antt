-- Numbers as text. Definitions only.
use Rattle.std.specs.Prelude.{ℕ, zero, suc, ◌+◌, ◌/◌, ◌%◌, cond, List, [], ◌∷◌, ◌++◌, ltb, ℤ, pos, negsuc}

-- the decimal digits of n, of which there are at most k: those of n / 10 and then the last one; no zero leads but in 0 itself
unfoldable pub digits : ℕ → ℕ → List ℕ
digits zero n = []
digits (suc k) n = cond (ltb n 10) ((48 + n) ∷ []) (digits k (n / 10) ++ ((48 + n % 10) ∷ []))

-- the bytes of an i32: its digits, which are at most ten, after a minus sign (45) where it is negative
abbrev pub written : ℤ → List ℕ
written (pos n) = digits 10 n
written (negsuc n) = 45 ∷ digits 10 (suc n)
