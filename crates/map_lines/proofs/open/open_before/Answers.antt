use Prim.Native.Nat.{◌-◌, ◌≤◌}
use native.Mathlib.Omega.{arith}
use borrow.Author.Rules.{rules}
use Rattle.base_turns.proofs.Each.{Each, each_none, each_on}
use Rattle.map_tiles.proofs.Maps.{is_map_lem}
use Rattle.map_lines.specs.OpenTurns.{OpenTurn}
use Rattle.map_lines.proofs.Intervals.{open_here, open_interval, open_turns}
use Rattle.map_lines.proofs.open.open_before.Goals as goal

pub loop-i-init : goal.loop-i-init
loop-i-init c = (each_none, omega arith, omega arith, omega arith)

pub point_at-a-requires : goal.point_at-a-requires
point_at-a-requires c = omega arith

pub returns-then-is_solid : goal.returns-then-is_solid
returns-then-is_solid c = open_turns _ _ _ _ _ _ c.loop-i.invariant.0 (omega arith)

pub overflow_sub-end : goal.overflow_sub-end
overflow_sub-end c = omega arith

pub overflow_add-next : goal.overflow_add-next
overflow_add-next c = omega arith

pub overflow_sub-next : goal.overflow_sub-next
overflow_sub-next c = omega arith

pub point_at-requires : goal.point_at-requires
point_at-requires c = omega arith

pub same_tile-requires : goal.same_tile-requires
same_tile-requires c = let m = is_map_lem _ _ c.requires.0 in (m.wide, m.high)

pub overflow_mul-n : goal.overflow_mul-n
overflow_mul-n c = omega arith

pub loop-i-smaller-then-same_tile : goal.loop-i-smaller-then-same_tile
loop-i-smaller-then-same_tile c = omega arith

pub loop-i-preserved-then-same_tile : goal.loop-i-preserved-then-same_tile
loop-i-preserved-then-same_tile c =
    let pre = c.requires in (
      open_interval _ _ _ _ _ _ c.loop-i.invariant.0 pre.2 pre.3 (omega arith) (omega (arith, pre.4))
          (open_here _ _ _ _ _ _ c.point_at-a.ensures c.check_point.ensures c.is_solid.ensures c.if-is_solid.false)
          (simp (← c.point_at-a.ensures, ← c.point_at.ensures, ← c.same_tile.ensures, c.if-same_tile.true)),
      omega arith,
      omega arith,
      omega arith,
    )

pub overflow_add-i : goal.overflow_add-i
overflow_add-i c = omega arith

pub overflow_add-n : goal.overflow_add-n
overflow_add-n c = omega arith

pub loop-i-smaller : goal.loop-i-smaller
loop-i-smaller c = omega arith

pub loop-i-preserved : goal.loop-i-preserved
loop-i-preserved c =
    (each_on c.loop-i.invariant.0 (open_here _ _ _ _ _ _ c.point_at-a.ensures c.check_point.ensures c.is_solid.ensures c.if-is_solid.false), omega arith, omega arith, omega arith)

pub returns : goal.returns
returns c = open_turns _ _ _ _ _ _ c.loop-i.invariant.0 (omega arith)
