use Rattle.std.proofs.Common.{◌≡◌, ◌+◌, ◌-◌, ◌*◌, ◌≤◌}
use Rattle.map_totals.specs.Area.{solid_row}
use Rattle.map_area.proofs.Rows.{Upto}
use Rattle.map_area.proofs.building.total_row.Given as goal

abbrev pub invariant-loop-column : goal.invariant-loop-column
invariant-loop-column l = (l.column ≤ l.sides.width) × (l.run ≡ solid_row l.sides l.tiles 0 l.column l.row) × Upto l.sides l.tiles (l.row * l.sides.width + l.column) l.totals

abbrev pub decreases-loop-column : goal.decreases-loop-column
decreases-loop-column l = l.sides.width - l.column
