-- How many slots a recorded scene tells. Definitions only.
use Rattle.std.specs.Prelude.{ℕ}

abbrev pub scene : ℕ
scene = 16
