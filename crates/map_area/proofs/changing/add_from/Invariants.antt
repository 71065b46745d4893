use Rattle.std.proofs.Common.{◌≡◌, ◌-◌, ◌*◌, ◌≤◌, length}
use Rattle.map_tiles.specs.Map.{sides_of}
use Rattle.map_area.proofs.Adding.{partly}
use Rattle.map_area.proofs.changing.add_from.Given as goal

abbrev pub invariant-loop-r : goal.invariant-loop-r
invariant-loop-r l = (l.row ≤ l.r) × (l.r ≤ l.height) × (length l.totals ≡ l.width * l.height) × (l.totals ≡ partly (sides_of l.width l.height) l.initial.totals l.column l.row l.n l.r)

abbrev pub decreases-loop-r : goal.decreases-loop-r
decreases-loop-r l = l.height - l.r
