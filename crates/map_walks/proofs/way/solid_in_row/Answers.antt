use mathlib.Core.Path.{◌≡◌, refl, sym, ◌∙◌}
use Prim.Native.Nat.{◌+◌, ◌-◌}
use native.Mathlib.Omega.{arith}
use borrow.Author.Rules.{rules}
use Rattle.map_tiles.proofs.Maps.{is_map_lem}
use Rattle.map_tiles.specs.Map.{tile_in, solid}
use Rattle.map_walks.specs.Way.{any, any_in, solid_in_row}
use Rattle.map_walks.proofs.Ways.{scan_end, scan_on, scan_yes}
use Rattle.map_walks.proofs.way.solid_in_row.Goals as goal

pub returns-then-is_solid_at : goal.returns-then-is_solid_at
unfolding solid_in_row
returns-then-is_solid_at c = sym (sym c.loop-column.invariant ∙ scan_yes _ _ _ (omega arith) (sym c.is_solid_at.ensures ∙ c.if-is_solid_at.true))

pub loop-column-preserved : goal.loop-column-preserved
loop-column-preserved c = sym (scan_on _ _ _ (omega arith) (sym c.is_solid_at.ensures ∙ c.if-is_solid_at.false)) ∙ c.loop-column.invariant

pub returns : goal.returns
unfolding solid_in_row
returns c = sym (sym c.loop-column.invariant ∙ scan_end _ _ _ (omega arith))
