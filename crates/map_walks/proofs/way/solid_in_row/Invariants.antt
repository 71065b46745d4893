use mathlib.Core.Path.{◌≡◌, refl, sym, ◌∙◌}
use Prim.Native.Nat.{◌+◌, ◌-◌}
use native.Mathlib.Omega.{arith}
use borrow.Author.Rules.{rules}
use Rattle.map_tiles.proofs.Maps.{is_map_lem}
use Rattle.map_tiles.specs.Map.{tile_in, solid}
use Rattle.map_walks.specs.Way.{any, any_in, solid_in_row}
use Rattle.map_walks.proofs.Ways.{scan_end, scan_on, scan_yes}
use Rattle.map_walks.proofs.way.solid_in_row.Given as goal

abbrev pub invariant-loop-column : goal.invariant-loop-column
invariant-loop-column l = any (λ k. solid (tile_in l.sides l.tiles k l.row)) (l.fn.columns.last + 1 - l.column) l.column ≡ any_in (λ k. solid (tile_in l.sides l.tiles k l.row)) l.fn.columns
