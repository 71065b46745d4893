-- Bytes at a place of a text. Definitions only.
use Rattle.std.specs.Prelude.{ℕ, ◌+◌, List, ◌++◌, ◌≡◌, length, drop}

-- the bytes w stand in the text s from the place `at` up to the place `next`
pub record Stands (w s : List ℕ) (at next : ℕ) : Type 0 where
  pub bytes : drop at s ≡ w ++ drop next s
  pub place : next ≡ at + length w

-- the bytes w do not stand in the text s from the place `at` on
abbrev pub Absent : List ℕ → List ℕ → ℕ → Type 0
Absent w s at = (rest : List ℕ) → drop at s ≡ w ++ rest → ⊥
