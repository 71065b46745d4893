-- The layout of what callers keep, as one number. Definitions only.
use Rattle.std.specs.Prelude.{ℕ}

-- 1: nineteen tunings and sixty-four seats of presence, record, input and floor mark; copies of presence, record, input, two flags and steps
abbrev pub layout : ℕ
layout = 1
