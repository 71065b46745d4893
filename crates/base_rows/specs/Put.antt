-- A row that is written into a longer one. Definitions only.
use Rattle.std.specs.Prelude.{ℕ, ◌+◌, List, ◌++◌, length, take, drop}

-- the row d with the row w from the place `at` on, and all else as it was
unfoldable pub put : {A : Type 0} → List A → ℕ → List A → List A
put d at w = take at d ++ (w ++ drop (at + length w) d)
