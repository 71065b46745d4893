use mathlib.Core.Path.{◌≡◌, ap, ◌∙◌}
use Prim.Native.Nat.{ℕ}
use native.Mathlib.Omega.{arith}
use lib.IntN.{ℤ}
use mir.Facts.{to_z-of_z}
use mathlib.Core.Bool.{true, false}
use Rattle.map_tiles.specs.declared.tiles.Sides.{Sides}
use Rattle.world.specs.Calls.{point_of}
use Rattle.trial_rule.specs.Trial.{Entrant, target_column, target_row, distance_to, entered}
use Rattle.trial_runs.proofs.players.entered.Goals as goal

made : (s : Sides) (e : Entrant) (x y : ℤ) (c r d : ℕ) → x ≡ e.x → y ≡ e.y → c ≡ target_column s e → r ≡ target_row s e → d ≡ distance_to s c r (point_of x y) → record { joined = true; column = c; row = r; x = x; stayed = false; distance = d; step = 0 } ≡ entered s e
unfolding entered
made s e x y c r d i j k l m = rw (m, k, l, i, j)

pub overflow_cast-result : goal.overflow_cast-result
overflow_cast-result c = let d = c.distance_to-start.ensures.1 c.clamped-target_column.ensures.1 c.clamped-target_row.ensures.1 in omega (arith, d)

pub returns : goal.returns
returns c = λ id.
    let s = c in
    let a = s.args in
    let x = to_z-of_z s.ranges.x in
    let y = to_z-of_z s.ranges.y in
    made a.sides _ _ _ _ _ _ x y (c.clamped-target_column.ensures.0 ∙ ap (λ (z : ℤ). target_column a.sides (record { id = id; x = a.x; y = a.y; column = z; row = a.row })) (to_z-of_z s.ranges.column)) (c.clamped-target_row.ensures.0 ∙ ap (λ (z : ℤ). target_row a.sides (record { id = id; x = a.x; y = a.y; column = a.column; row = z })) (to_z-of_z s.ranges.row)) c.distance_to-start.ensures.0
