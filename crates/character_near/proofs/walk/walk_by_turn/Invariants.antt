use mathlib.Core.List.{List}
use mathlib.Core.Path.{◌≡◌, refl, sym, ap, ◌∙◌}
use Prim.Native.Nat.{ℕ, ◌-◌, ◌^◌}
use native.Mathlib.Omega.{arith}
use lib.Dec.{le→leb}
use lib.Ieee.{Float, binary32, div, in_float}
use lib.IntN.{pos}
use borrow.Author.Rules.{rules}
use Rattle.character_near.specs.Near.{near_turn, near_walk_turn, or_to, walk_near}
use Rattle.num_convert.specs.Convert.{i32_to_f32}
use Rattle.base_turns.proofs.Loop.{Left, turn_first, turn_on, turn_off, turn_end}
use Rattle.base_turns.specs.Turns.{more, stop, run}
use Rattle.num_vec2.specs.Vec2.{vmix}
use Rattle.num_vec2.specs.declared.vec2.{vec2}
use Rattle.character_near.proofs.walk.walk_by_turn.Given as goal

abbrev pub invariant-loop-k : goal.invariant-loop-k
invariant-loop-k l = (l.rest ≡ l.initial.rest) × Left (near_turn l.xs l.ys l.from l.to l.last l.fraction l.p) l.count l.k tt (run (near_turn l.xs l.ys l.from l.to l.last l.fraction l.p) l.count 0 tt)

abbrev pub decreases-loop-k : goal.decreases-loop-k
decreases-loop-k l = l.count - l.k

abbrev pub invariant-walk : goal.invariant-walk
invariant-walk l = (l.rest ≡ l.initial.rest) × Left (near_walk_turn l.count l.xs l.ys l.from l.to l.distance) l.turns l.i l.last (run (near_walk_turn l.count l.xs l.ys l.from l.to l.distance) l.turns 0 l.initial.last)

abbrev pub decreases-walk : goal.decreases-walk
decreases-walk l = l.turns - l.i
