use mathlib.Core.Path.{◌≡◌}
use lib.ListN.{length}
use Rattle.character.specs.Tick.{seats}
use Rattle.session_run.specs.Session.{LinesRan}
use Rattle.session_run.proofs.Due.{most_left}
use Rattle.session_run.proofs.lines.run_lines.Given as goal

abbrev pub invariant-loop-sides : goal.invariant-loop-sides
invariant-loop-sides l = LinesRan seats l.text l.sides l.tiles l.initial.session l.initial.buf 0 l.session l.buf l.next × (length l.buf ≡ length l.initial.buf)

abbrev pub decreases-loop-sides : goal.decreases-loop-sides
decreases-loop-sides l = most_left l.session
