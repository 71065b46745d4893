use mathlib.Core.Path.{◌≡◌, ap, ap₂, ◌∙◌}
use mir.Syntax.{w32}
use mir.Facts.{to_z-of_z}
use borrow.Author.Rules.{rules}
use Rattle.aim_scan.specs.Scan.{scanned}
use Rattle.aim_scan.specs.declared.scan.Scan.{Scan}
use Rattle.ponguriena_parts.proofs.aim.ponguriena_scan_angle.Goals as goal

pub returns : goal.returns
returns c =
    let a = c in
    let e : c.scan_angle-scan.result ≡ scanned a.args.x a.args.y = c.scan_angle-scan.ensures ∙ ap₂ scanned (to_z-of_z a.ranges.x) (to_z-of_z a.ranges.y) in
    (to_z-of_z {w = w32} (search rules) ∙ ap (λ (s : Scan). s.angle) e, ap (λ (s : Scan). s.read) e)
