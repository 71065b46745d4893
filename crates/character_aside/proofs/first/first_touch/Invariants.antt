use mathlib.Core.Path.{sym, ◌∙◌}
use Prim.Native.Nat.{◌+◌, ◌-◌, ◌*◌, ◌≤◌}
use native.Mathlib.Omega.{arith}
use borrow.Author.Rules.{rules}
use Rattle.base_turns.proofs.Each.{Each, each_none}
use Rattle.character_aside.specs.First.{Untouched}
use Rattle.character_aside.proofs.Firsts.{none_touched, found_later, found_none, interval_aside}
use Rattle.character_aside.proofs.first.first_touch.Given as goal

abbrev pub invariant-loop-i : goal.invariant-loop-i
invariant-loop-i l = Each (Untouched l.from l.to l.distance l.q) 0 l.i × (l.i ≤ l.end) × (1 ≤ l.n) × (l.n ≤ 131072)

abbrev pub decreases-loop-i : goal.decreases-loop-i
decreases-loop-i l = (l.end - l.i) * 131073 + l.n
