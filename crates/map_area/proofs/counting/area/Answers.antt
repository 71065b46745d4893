use Rattle.std.proofs.Common.{◌≡◌, ℕ, true, sym, refl, ap, ◌∙◌, arith, to_z-of_z}
use denote.Floats.{passes}
use Rattle.map_tiles.specs.Map.{is_map, count}
use Rattle.map_totals.specs.Area.{count_in}
use Rattle.map_totals.specs.Calls.{is_area, is_totals, area_in}
use Rattle.map_totals.proofs.Areas.{is_area_lem, is_totals_lem, totals_right, totals_wrong}
use Rattle.map_area.proofs.counting.area.Goals.{then-totals-tiles-via-then-totals-tiles, then-totals-tiles-via-else-totals-tiles+then-not-is_area}
use Rattle.map_area.proofs.counting.area.Goals as goal

pub returns-then-not-is_map : goal.returns-then-not-is_map
unfolding area_in
returns-then-not-is_map c k = simp (← c.is_map.ensures, c.if-not-is_map.true)

pub returns-then-totals-tiles : goal.returns-then-totals-tiles
unfolding area_in
returns-then-totals-tiles c k =
    let a = c.args in
    let f = c.ranges in
    let map : is_map a.sides a.tiles.now ≡ true = sym c.is_map.ensures ∙ c.if-not-is_map.false in
    elim c.then-totals-tiles.branch [
      | then-totals-tiles-via-then-totals-tiles w ↦ simp (map, totals_wrong a.sides a.tiles.now a.totals.now map w.if-totals-tiles.true)
      | then-totals-tiles-via-else-totals-tiles+then-not-is_area w ↦ let told : w.is_area.result ≡ is_area a.sides a.left a.top a.columns a.rows = simp (to_z-of_z f.left, to_z-of_z f.top, to_z-of_z f.columns, to_z-of_z f.rows) at w.is_area.ensures in simp (map, totals_right a.sides a.tiles.now a.totals.now map w.if-totals-tiles.false, ← told, w.if-not-is_area.true)
    ]

pub count_in-requires : goal.count_in-requires
count_in-requires c =
    let a = c.args in
    let f = c.ranges in
    let map : is_map a.sides a.tiles.now ≡ true = sym c.is_map.ensures ∙ c.if-not-is_map.false in
    let told : c.is_area.result ≡ is_area a.sides a.left a.top a.columns a.rows = simp (to_z-of_z f.left, to_z-of_z f.top, to_z-of_z f.columns, to_z-of_z f.rows) at c.is_area.ensures in
    let area = is_area_lem a.sides a.left a.top a.columns a.rows (passes (is_area a.sides a.left a.top a.columns a.rows) (sym told ∙ c.if-not-is_area.false)) in
    let left : c.count.result ≡ count a.left = c.count.ensures.0 ∙ ap count (to_z-of_z f.left) in
    let top : c.count-2.result ≡ count a.top = c.count-2.ensures.0 ∙ ap count (to_z-of_z f.top) in
    let columns : c.count-3.result ≡ count a.columns = c.count-3.ensures.0 ∙ ap count (to_z-of_z f.columns) in
    let rows : c.count-4.result ≡ count a.rows = c.count-4.ensures.0 ∙ ap count (to_z-of_z f.rows) in
    (omega (arith, area.narrow), omega (arith, area.low), is_totals_lem a.sides a.totals.now (passes (is_totals a.sides a.totals.now) (totals_right a.sides a.tiles.now a.totals.now map c.if-totals-tiles.false)))

pub returns : goal.returns
unfolding area_in
returns c k =
    let a = c.args in
    let f = c.ranges in
    let map : is_map a.sides a.tiles.now ≡ true = sym c.is_map.ensures ∙ c.if-not-is_map.false in
    let told : c.is_area.result ≡ is_area a.sides a.left a.top a.columns a.rows = simp (to_z-of_z f.left, to_z-of_z f.top, to_z-of_z f.columns, to_z-of_z f.rows) at c.is_area.ensures in
    let area : is_area a.sides a.left a.top a.columns a.rows ≡ true = sym told ∙ c.if-not-is_area.false in
    let left : c.count.result ≡ count a.left = c.count.ensures.0 ∙ ap count (to_z-of_z f.left) in
    let top : c.count-2.result ≡ count a.top = c.count-2.ensures.0 ∙ ap count (to_z-of_z f.top) in
    let columns : c.count-3.result ≡ count a.columns = c.count-3.ensures.0 ∙ ap count (to_z-of_z f.columns) in
    let rows : c.count-4.result ≡ count a.rows = c.count-4.ensures.0 ∙ ap count (to_z-of_z f.rows) in
    let n : c.count_in.result ≡ count_in a.sides a.totals.now (count a.left) (count a.top) (count a.columns) (count a.rows) = c.count_in.ensures ∙ rw (left, top, columns, rows) refl in
    simp (map, totals_right a.sides a.tiles.now a.totals.now map c.if-totals-tiles.false, area) (ap (λ (i : ℕ). record { number = 0; count = i }) (sym n))
