use Prim.Native.Nat.{◌-◌, ◌≤◌}
use native.Mathlib.Omega.{arith}
use borrow.Author.Rules.{rules}
use Rattle.base_turns.proofs.Each.{Each, each_none, each_on}
use Rattle.map_tiles.proofs.Maps.{is_map_lem}
use Rattle.map_lines.specs.OpenTurns.{OpenTurn}
use Rattle.map_lines.proofs.Intervals.{open_here, open_interval, open_turns}
use Rattle.map_lines.proofs.open.open_before.Given as goal

abbrev pub invariant-loop-i : goal.invariant-loop-i
invariant-loop-i l = Each (OpenTurn l.sides l.tiles l.from l.to l.dist) 0 l.i × (l.i ≤ l.end) × (1 ≤ l.n) × (l.n ≤ 131072)

abbrev pub decreases-loop-i : goal.decreases-loop-i
decreases-loop-i l = l.end - l.i
