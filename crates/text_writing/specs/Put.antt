-- What writing leaves in a buffer. Definitions only.
use Rattle.std.specs.Prelude.{ℕ, ◌+◌, List, ◌≡◌, length}
use Rattle.base_rows.specs.Put.{put}

-- the buffer d became e by the bytes w, which stand from the place `at` on, and `next` is the place past them
pub record Put (d : List ℕ) (at : ℕ) (w e : List ℕ) (next : ℕ) : Type 0 where
  pub bytes : e ≡ put d at w
  pub place : next ≡ at + length w
