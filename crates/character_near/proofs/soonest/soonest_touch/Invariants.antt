use mathlib.Core.Path.{◌≡◌, sym, subst}
use mathlib.Core.List.{List}
use mathlib.Core.Logic.{⊎_elim}
use Prim.Native.Nat.{ℕ, ◌-◌, ◌≤◌}
use native.Mathlib.Omega.{arith}
use lib.Ieee.{Float}
use borrow.Author.Rules.{rules}
use Rattle.num_vec2.specs.declared.vec2.{vec2}
use Rattle.character_aside.specs.First.{FirstTouch}
use Rattle.character_near.specs.Soonest.{Soonest}
use Rattle.character_near.proofs.Walks.{soonest_none, soonest_on, soonest_past}
use Rattle.character_near.proofs.soonest.soonest_touch.Given as goal

abbrev pub invariant-loop-k : goal.invariant-loop-k
invariant-loop-k l = Soonest l.xs l.ys l.from l.to l.distance l.turns l.k l.turn l.place × (l.k ≤ l.count)

abbrev pub decreases-loop-k : goal.decreases-loop-k
decreases-loop-k l = l.count - l.k
