-- What is printed is a line for each that does not agree.
use Rattle.std.proofs.Common.{ℕ, ◌≤◌, ◌*◌, ◌-◌, ◌≡◌, List, length}
use Rattle.std.specs.declared.option.Option.{Option}
use Rattle.std.specs.Io.KnownBytes.{Appends, Consumes}
use Rattle.test_common.specs.declared.counts.Counts.{Counts}
use Rattle.test_common.proofs.counting.count_lines.Given as goal

-- the counts of at most n lines that are so long, and what was printed of them
abbrev pub Told : ℕ → ℕ → Counts → Option (List ℕ) → Option (List ℕ) → Type 0
Told long n c old new = (c.good ≤ c.lines) × (c.lines ≤ n) × ((text : List ℕ) × (length text ≡ long * (c.lines - c.good)) × Appends old new text)

-- what was read has so many lines
abbrev pub Taken : ℕ → Counts → Option (List ℕ) → Option (List ℕ) → Type 0
Taken long c old new = (text : List ℕ) × (long * c.lines ≤ length text) × Consumes old new text

abbrev pub invariant-loop : goal.invariant-loop
invariant-loop g l = record {
  callable : goal.F-IsAlwaysCallable g l.agrees;
  told : Told g.row.LINE l.counter l.counts (g.W.Write.contents l.initial.output) (g.W.Write.contents l.output);
  taken : Taken g.row.LINE l.counts (g.R.Read.remaining l.initial.input) (g.R.Read.remaining l.input);
}
