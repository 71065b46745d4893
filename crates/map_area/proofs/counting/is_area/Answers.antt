use Rattle.std.proofs.Common.{◌≡◌, ℤ, ◌∙◌, ap₂, to_z-of_z}
use Rattle.map_totals.specs.Calls.{is_span, is_area}
use Rattle.map_area.proofs.counting.is_area.Goals as goal

pub returns-else-is_span : goal.returns-else-is_span
unfolding is_area
returns-else-is_span c =
    let a = c.args in
    let f = c.ranges in
    let e : c.is_span.result ≡ is_span a.left a.columns a.sides.width = c.is_span.ensures ∙ ap₂ (λ (x y : ℤ). is_span x y a.sides.width) (to_z-of_z f.left) (to_z-of_z f.columns) in
    simp (← e, c.if-is_span.false)

pub returns-then-is_span : goal.returns-then-is_span
unfolding is_area
returns-then-is_span c =
    let a = c.args in
    let f = c.ranges in
    let e : c.is_span.result ≡ is_span a.left a.columns a.sides.width = c.is_span.ensures ∙ ap₂ (λ (x y : ℤ). is_span x y a.sides.width) (to_z-of_z f.left) (to_z-of_z f.columns) in
    let d : c.is_span-then-is_span.result ≡ is_span a.top a.rows a.sides.height = c.is_span-then-is_span.ensures ∙ ap₂ (λ (x y : ℤ). is_span x y a.sides.height) (to_z-of_z f.top) (to_z-of_z f.rows) in
    simp (← e, ← d, c.if-is_span.true)
