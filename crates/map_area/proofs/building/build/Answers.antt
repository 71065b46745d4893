use Rattle.std.proofs.Common.{◌≡◌, true, List, ℕ, sym, ap, ◌∙◌}
use denote.Floats.{passes}
use Rattle.map_tiles.specs.Map.{is_map}
use Rattle.map_totals.specs.Calls.{is_totals, build_in}
use Rattle.map_totals.proofs.Areas.{is_totals_lem, totals_right, totals_wrong}
use Rattle.map_area.proofs.building.build.Goals as goal

pub returns-then-not-is_map : goal.returns-then-not-is_map
unfolding build_in
returns-then-not-is_map c = simp (← c.is_map.ensures, c.if-not-is_map.true)

pub returns-then-totals-tiles : goal.returns-then-totals-tiles
unfolding build_in
returns-then-totals-tiles c =
    let a = c.args in
    let map : is_map a.sides a.tiles.now ≡ true = sym c.is_map.ensures ∙ c.if-not-is_map.false in
    simp (map, totals_wrong a.sides a.tiles.now a.totals.now map c.if-totals-tiles.true)

pub total_rows-requires : goal.total_rows-requires
total_rows-requires c =
    let a = c.args in
    let map : is_map a.sides a.tiles.now ≡ true = sym c.is_map.ensures ∙ c.if-not-is_map.false in
    (passes (is_map a.sides a.tiles.now) map, is_totals_lem a.sides a.totals.now (passes (is_totals a.sides a.totals.now) (totals_right a.sides a.tiles.now a.totals.now map c.if-totals-tiles.false)))

pub returns : goal.returns
unfolding build_in
returns c =
    let a = c.args in
    let map : is_map a.sides a.tiles.now ≡ true = sym c.is_map.ensures ∙ c.if-not-is_map.false in
    simp (map, totals_right a.sides a.tiles.now a.totals.now map c.if-totals-tiles.false) (ap (λ (t : List ℕ). record { number = 0; totals = t }) (sym c.total_rows.ensures))
