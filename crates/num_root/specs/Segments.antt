-- The coefficients from which a root is guessed. Definitions only.
use Rattle.std.specs.Prelude.{ℕ, ◌^◌, ◌<◌, ◌≤◌, List, slice_index}

-- the four of a row are within their bounds
abbrev pub IsRow : List ℕ → Type 0
IsRow r =
    (2 ^ 31 ≤ slice_index r 0) × (slice_index r 0 < 2 ^ 32)
    × (slice_index r 1 < 2 ^ 27)
    × (2 ^ 18 ≤ slice_index r 2) × (slice_index r 2 < 2 ^ 21)
    × (slice_index r 3 < 2 ^ 16)
