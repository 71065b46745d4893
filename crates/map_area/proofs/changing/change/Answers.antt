use Rattle.std.proofs.Common.{◌≡◌, ℕ, true, pos, sym, ap, ◌∙◌, ap₂, arith, to_z-of_z}
use denote.Floats.{passes}
use Rattle.map_tiles.specs.Map.{is_map, count}
use Rattle.map_totals.specs.Calls.{is_totals, is_area, changed, change_in}
use Rattle.map_totals.proofs.Areas.{is_area_lem, is_totals_lem, totals_right, totals_wrong}
use Rattle.map_area.proofs.changing.change.Goals.{then-totals-tiles-via-then-totals-tiles, then-totals-tiles-via-else-totals-tiles+then-not-is_area}
use Rattle.map_area.proofs.changing.change.Goals as goal

pub returns-then-not-is_map : goal.returns-then-not-is_map
unfolding change_in
returns-then-not-is_map c = simp (← c.is_map.ensures, c.if-not-is_map.true)

pub returns-then-totals-tiles : goal.returns-then-totals-tiles
unfolding change_in
returns-then-totals-tiles c =
    let a = c.args in
    let f = c.ranges in
    let map : is_map a.sides a.tiles.now ≡ true = sym c.is_map.ensures ∙ c.if-not-is_map.false in
    elim c.then-totals-tiles.branch [
      | then-totals-tiles-via-then-totals-tiles w ↦ simp (map, totals_wrong a.sides a.tiles.now a.totals.now map w.if-totals-tiles.true)
      | then-totals-tiles-via-else-totals-tiles+then-not-is_area w ↦ let told : w.is_area.result ≡ is_area a.sides a.column a.row (pos 1) (pos 1) = simp (to_z-of_z f.column, to_z-of_z f.row) at w.is_area.ensures in simp (map, totals_right a.sides a.tiles.now a.totals.now map w.if-totals-tiles.false, ← told, w.if-not-is_area.true)
    ]

pub change_at-requires : goal.change_at-requires
change_at-requires c =
    let a = c.args in
    let f = c.ranges in
    let map : is_map a.sides a.tiles.now ≡ true = sym c.is_map.ensures ∙ c.if-not-is_map.false in
    let told : c.is_area.result ≡ is_area a.sides a.column a.row (pos 1) (pos 1) = simp (to_z-of_z f.column, to_z-of_z f.row) at c.is_area.ensures in
    let area = is_area_lem a.sides a.column a.row (pos 1) (pos 1) (passes (is_area a.sides a.column a.row (pos 1) (pos 1)) (sym told ∙ c.if-not-is_area.false)) in
    let e : c.count.result ≡ count a.column = c.count.ensures.0 ∙ ap count (to_z-of_z f.column) in
    let d : c.count-2.result ≡ count a.row = c.count-2.ensures.0 ∙ ap count (to_z-of_z f.row) in
    (passes (is_map a.sides a.tiles.now) map, omega (arith, area.narrow), omega (arith, area.low), is_totals_lem a.sides a.totals.now (passes (is_totals a.sides a.totals.now) (totals_right a.sides a.tiles.now a.totals.now map c.if-totals-tiles.false)))

pub returns : goal.returns
unfolding change_in
returns c =
    let a = c.args in
    let f = c.ranges in
    let map : is_map a.sides a.tiles.now ≡ true = sym c.is_map.ensures ∙ c.if-not-is_map.false in
    let told : c.is_area.result ≡ is_area a.sides a.column a.row (pos 1) (pos 1) = simp (to_z-of_z f.column, to_z-of_z f.row) at c.is_area.ensures in
    let area : is_area a.sides a.column a.row (pos 1) (pos 1) ≡ true = sym told ∙ c.if-not-is_area.false in
    let e : c.count.result ≡ count a.column = c.count.ensures.0 ∙ ap count (to_z-of_z f.column) in
    let d : c.count-2.result ≡ count a.row = c.count-2.ensures.0 ∙ ap count (to_z-of_z f.row) in
    simp (map, totals_right a.sides a.tiles.now a.totals.now map c.if-totals-tiles.false, area) (ap₂ (λ (i j : ℕ). changed a.sides a.tiles.now a.totals.now i j a.byte) (sym e) (sym d) ∙ c.change_at.ensures)
