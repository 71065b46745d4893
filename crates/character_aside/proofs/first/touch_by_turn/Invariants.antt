use native.Mathlib.Omega.{arith}
use borrow.Author.Rules.{rules}
use Rattle.base_turns.proofs.Each.{Each, each_none, each_on}
use Rattle.character_aside.specs.First.{Untouched}
use Rattle.character_aside.proofs.Firsts.{none_touched, touched-at}
use Rattle.character_aside.proofs.first.touch_by_turn.Given as goal

abbrev pub invariant-loop-i : goal.invariant-loop-i
invariant-loop-i l = Each (Untouched l.from l.to l.distance l.q) l.first l.i
