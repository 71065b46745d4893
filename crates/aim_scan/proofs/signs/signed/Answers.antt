use mathlib.Core.Path.{◌≡◌, ◌∙◌}
use Prim.Native.Nat.{ℕ, ◌≤◌}
use native.Mathlib.Nat.{lt_of_le_of_lt}
use lib.Dec.{lit<}
use lib.IntN.{pos}
use mir.Syntax.{w32}
use mir.Val.{to_z}
use mir.Facts.{to_z-of_z, to_z_pos}
use Rattle.aim_tables.proofs.Whole.{opposite_fits}
use Rattle.aim_scan.proofs.Below.{below_sign, above_sign}
use Rattle.aim_scan.proofs.signs.signed.Goals as goal

read : (n : ℕ) → n ≤ 804 → to_z w32 n ≡ pos n
read n h = to_z_pos w32 (lt_of_le_of_lt h (lit< tt))

pub overflow_sub-result : goal.overflow_sub-result
overflow_sub-result c =
    let n = c.before.args.n in
    let h = c.before.requires in
    rw (read n h) (opposite_fits (pos n) (lt_of_le_of_lt h (lit< tt)))

pub returns-then-y-lt0 : goal.returns-then-y-lt0
returns-then-y-lt0 c =
    let n = c.before.args.n in
    let h = c.before.requires in
    rw (read n h, to_z-of_z {w = w32} (opposite_fits (pos n) (lt_of_le_of_lt h (lit< tt)))) (below_sign c.before.args.y n (rw (to_z-of_z c.before.ranges.y) at c.if-y-lt0.true))

pub returns-else-y-lt0 : goal.returns-else-y-lt0
returns-else-y-lt0 c =
    let n = c.before.args.n in
    read n c.before.requires ∙ above_sign c.before.args.y n (rw (to_z-of_z c.before.ranges.y) at c.if-y-lt0.false)
