-- A write that fails appends nothing.
use Rattle.std.specs.Io.KnownBytes.{Keeps}
use Rattle.base_input.proofs.write_some.Given as goal

abbrev pub invariant-loop : goal.invariant-loop
invariant-loop g l = Keeps (g.W.Write.contents l.initial.output) (g.W.Write.contents l.output)
