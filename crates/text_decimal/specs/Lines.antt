-- Lines of values. Definitions only.
use Rattle.std.specs.Prelude.{ℕ, cond, List, [], ◌∷◌, ◌++◌, eqb, ℤ, length}
use Rattle.text_decimal.specs.Decimal.{written}

-- the byte that ends a value with n values of its line still to come: 10 ends the line, 32 stands between
abbrev pub end_byte : ℕ → ℕ
end_byte n = cond (eqb n 0) 10 32

-- a word and the byte that ends it
abbrev pub ended : List ℕ → ℕ → List ℕ
ended w stop = w ++ (stop ∷ [])

-- a line of values: one byte 32 between two, byte 10 at the end
abbrev pub line : List ℤ → List ℕ
line [] = []
line (z ∷ zs) = ended (written z) (end_byte (length zs)) ++ line zs

-- P of every element
abbrev pub All : {A : Type 0} → (A → Type 0) → List A → Type 0
All P [] = Unit {0}
All P (x ∷ xs) = P x × All P xs
