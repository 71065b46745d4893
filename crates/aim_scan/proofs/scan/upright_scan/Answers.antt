use mathlib.Core.Path.{◌≡◌, refl, sym, ap, ◌∙◌, subst}
use native.Mathlib.Nat.{le_trans}
use Prim.Native.Nat.{ℕ, ◌≤◌}
use lib.Dec.{lit≤}
use lib.IntN.{pos}
use mir.Syntax.{w64}
use mir.Val.{of_z}
use mir.Facts.{to_z-of_z}
use Rattle.aim_rule.specs.Angle.{fitting, largest}
use Rattle.aim_rule.specs.Scan.{first_entry}
use Rattle.aim_rule.proofs.Search.{held}
use Rattle.aim_scan.proofs.Below.{bits_zero}
use Rattle.aim_scan.proofs.Upright.{first_within, scan_is, zero_scan}
use Rattle.aim_scan.proofs.scan.upright_scan.Goals.{After-first_entry}
use Rattle.aim_scan.proofs.scan.upright_scan.Goals.{else-y-eq0-via-then-y-eq0+else-x-eq0, else-y-eq0-via-else-y-eq0}
use Rattle.aim_scan.proofs.scan.upright_scan.Goals as goal

-- the entry that is read first
first_is : (c : After-first_entry) → c.first_entry.result ≡ first_entry c.args.x
first_is c = c.first_entry.ensures ∙ ap first_entry (to_z-of_z c.ranges.x)

pub returns-then-x-eq0 : goal.returns-then-x-eq0
returns-then-x-eq0 c =
    let a = c.before.before in
    (zero_scan a.args.x a.args.y (bits_zero a.args.x a.ranges.x c.if-x-eq0.true refl) (bits_zero a.args.y a.ranges.y c.before.if-y-eq0.true refl), lit≤ tt)

pub scan_down-requires : goal.scan_down-requires
scan_down-requires c = (held c.ranges.x c.ranges.y c.requires, subst (λ (n : ℕ). n ≤ 804) (sym (first_is c)) (first_within c.args.x))

pub returns : goal.returns
returns c =
    let a = c.args in
    let d = c.scan_down in
    let e = c.first_entry.ensures ∙ ap first_entry (to_z-of_z c.ranges.x) in
    let n : a.y ≡ pos 0 → a.x ≡ pos 0 → ⊥ = λ p q. elim c.else-y-eq0.branch [ else-y-eq0-via-then-y-eq0+else-x-eq0 w ↦ w.if-x-eq0.false (ap (of_z w64) q) | else-y-eq0-via-else-y-eq0 w ↦ w.if-y-eq0.false (ap (of_z w64) p) ] in
    let l : d.result.n ≡ largest (fitting a.x a.y) c.first_entry.result = rw (to_z-of_z c.ranges.x, to_z-of_z c.ranges.y) at d.ensures.0 in
    (scan_is a.x a.y c.requires n d.result c.first_entry.result e l d.ensures.2, le_trans d.ensures.1 (subst (λ (n : ℕ). n ≤ 804) (sym e) (first_within a.x)))
