use mathlib.Core.Path.{◌≡◌, refl, sym, ◌∙◌}
use Prim.Native.Nat.{◌+◌, ◌-◌}
use native.Mathlib.Omega.{arith}
use borrow.Author.Rules.{rules}
use Rattle.map_tiles.proofs.Maps.{is_map_lem}
use Rattle.map_walks.specs.Way.{any, any_in, solid_among, solid_in_row}
use Rattle.map_walks.proofs.Ways.{scan_end, scan_on, scan_yes}
use Rattle.map_walks.proofs.way.solid_among.Given as goal

abbrev pub invariant-loop-row : goal.invariant-loop-row
invariant-loop-row l = any (solid_in_row l.sides l.tiles l.columns) (l.fn.rows.last + 1 - l.row) l.row ≡ any_in (solid_in_row l.sides l.tiles l.columns) l.fn.rows
