-- Counting the lines that agree. Definitions only.
use Rattle.std.specs.Prelude.{ℕ, ◌+◌, ◌%◌, ◌^◌, List, ◌++◌, codes, decimal}
use Rattle.test_common.specs.declared.counts.Counts.{Counts}
use Rattle.test_common.specs.declared.counts.Outcome.{Outcome}
use Rattle.test_common.specs.declared.counts.Outcome.TheVariants.{End, Agrees, Differs}

-- a program reads at most so many lines
abbrev pub most_lines : ℕ
most_lines = 65536

-- one more, modulo 2 ^ 64
abbrev next : ℕ → ℕ
next n = (n + 1) % 2 ^ 64

-- the end is no line
unfoldable pub counted : Counts → Outcome → Counts
counted c End = c
counted c Agrees = record { lines = next c.lines; good = next c.good }
counted c Differs = record { lines = next c.lines; good = c.good }

-- how many lines agree, of how many
unfoldable pub counts_line : Counts → List ℕ
counts_line c = decimal c.good ++ codes " of " ++ decimal c.lines ++ codes " agree\n"
