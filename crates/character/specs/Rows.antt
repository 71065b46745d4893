-- Rows of eight seats, of which none has to be asked. Definitions only.
use Rattle.std.specs.Prelude.{ℕ, ◌+◌, ◌≤◌, ◌<◌, Bool, false, ◌≡◌}
use Rattle.character.specs.Tick.{seats}

-- there are eight seats from j on, and f is false of each
pub record NoneOfRow (f : ℕ → Bool) (j : ℕ) : Type 0 where
  pub row : j + 8 ≤ seats
  pub none : (k : ℕ) → j ≤ k → k < j + 8 → f k ≡ false
