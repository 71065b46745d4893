use mathlib.Core.Path.{◌≡◌, sym, ap, ap₂, ◌∙◌}
use lib.IntN.{ℤ}
use mir.Syntax.{w32}
use mir.Val.{to_z, of_z}
use mir.Facts.{to_z-of_z}
use borrow.Author.Rules.{rules}
use Rattle.aim_scan.specs.Scan.{scanned}
use Rattle.ponguriena.proofs.aim.ponguriena_aim.Goals as goal

pub returns : goal.returns
returns c =
    let a = c in
    let s = c.scan_angle-scan in
    let e : s.result ≡ scanned a.args.target_x a.args.target_y = s.ensures ∙ ap₂ scanned (to_z-of_z a.ranges.target_x) (to_z-of_z a.ranges.target_y) in
    let same : to_z w32 (of_z w32 s.result.angle) ≡ s.result.angle = to_z-of_z {w = w32} (search rules) in
    sym e ∙ ap (λ (z : ℤ). record { angle = z; read = s.result.read }) (sym same)
