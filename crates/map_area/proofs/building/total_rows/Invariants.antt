use Rattle.std.proofs.Common.{◌≡◌, ◌-◌, ◌*◌, ◌≤◌}
use Rattle.map_area.proofs.Rows.{Upto}
use Rattle.map_area.proofs.building.total_rows.Given as goal

abbrev pub invariant-loop-row : goal.invariant-loop-row
invariant-loop-row l = (l.row ≤ l.sides.height) × (l.row-end ≡ l.sides.height) × Upto l.sides l.tiles (l.row * l.sides.width) l.totals

abbrev pub decreases-loop-row : goal.decreases-loop-row
decreases-loop-row l = l.sides.height - l.row
