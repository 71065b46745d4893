use mathlib.Core.Path.{◌≡◌, refl, sym, ◌∙◌}
use Prim.Native.Nat.{◌+◌, ◌-◌}
use native.Mathlib.Omega.{arith}
use borrow.Author.Rules.{rules}
use Rattle.map_tiles.proofs.Maps.{is_map_lem}
use Rattle.map_walks.specs.Way.{any, any_in, solid_among, solid_in_row}
use Rattle.map_walks.proofs.Ways.{scan_end, scan_on, scan_yes}
use Rattle.map_walks.proofs.way.solid_among.Goals as goal

pub returns-then-solid_in_row : goal.returns-then-solid_in_row
unfolding solid_among
returns-then-solid_in_row c = sym (sym c.loop-row.invariant ∙ scan_yes _ _ _ (omega arith) (sym c.solid_in_row.ensures ∙ c.if-solid_in_row.true))

pub loop-row-preserved : goal.loop-row-preserved
loop-row-preserved c = sym (scan_on _ _ _ (omega arith) (sym c.solid_in_row.ensures ∙ c.if-solid_in_row.false)) ∙ c.loop-row.invariant

pub returns : goal.returns
unfolding solid_among
returns c = sym (sym c.loop-row.invariant ∙ scan_end _ _ _ (omega arith))
