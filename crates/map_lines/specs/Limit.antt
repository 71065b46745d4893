-- How long a walk may be. Definitions only.
use Rattle.std.specs.Prelude.{ℕ}

-- a walk of more turns is refused with 9
abbrev pub most_turns : ℕ
most_turns = 65536
