use mathlib.Core.Path.{ap₂, ◌∙◌}
use native.Mathlib.Nat.{le_trans}
use native.Mathlib.Omega.{arith}
use mir.Syntax.{w64}
use mir.Val.{to_z, of_z}
use mir.Facts.{to_z-of_z}
use Rattle.aim_rule.specs.Angle.{upper_angle}
use Rattle.aim_rule.proofs.Search.{held}
use Rattle.aim_scan.proofs.Upright.{first_within}
use Rattle.aim_scan.proofs.scan.settled.Goals as goal

pub scan_down-found-requires : goal.scan_down-found-requires
scan_down-found-requires c = (held c.ranges.x c.ranges.y c.requires.0, le_trans c.start-from.ensures.1 (first_within (to_z w64 (of_z w64 c.args.x))))

pub returns : goal.returns
returns c =
    let d = c.scan_down-found in
    let s = c.start-from in
    let within = first_within (to_z w64 (of_z w64 c.args.x)) in
    let same = d.ensures.0 ∙ s.ensures.0 in
    (same ∙ ap₂ upper_angle (to_z-of_z c.ranges.x) (to_z-of_z c.ranges.y), le_trans d.ensures.1 (le_trans s.ensures.1 within), omega (arith, same, d.ensures.2, s.ensures.2))
