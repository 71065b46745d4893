use mathlib.Core.Path.{◌≡◌, sym, ap, ap₂, ◌∙◌}
use Prim.Native.Nat.{◌+◌}
use lib.IntN.{ℤ}
use mir.Facts.{to_z-of_z}
use Rattle.aim_rule.specs.Angle.{fitting}
use Rattle.aim_rule.specs.Scan.{first_entry}
use Rattle.aim_rule.proofs.Search.{held}
use Rattle.aim_scan.proofs.Starts.{from_first, next_within, from_tested, from_guess}
use Rattle.aim_scan.proofs.scan.start.Goals.{After-first_entry-first, After-fits}
use Rattle.aim_scan.proofs.scan.start.Goals as goal

-- the first entry of the quarter
first_is : (c : After-first_entry-first) → c.first_entry-first.result ≡ first_entry c.before.args.x
first_is c = c.first_entry-first.ensures ∙ ap first_entry (to_z-of_z c.before.ranges.x)

-- the entry after the next was tested
tested : (c : After-fits) → let a = c.before.before.before.before in c.fits.result ≡ fitting a.args.x a.args.y (a.args.n + 2)
tested c = let a = c.before.before.before.before in c.fits.ensures ∙ ap₂ (λ (x y : ℤ). fitting x y (a.args.n + 2)) (to_z-of_z a.ranges.x) (to_z-of_z a.ranges.y)

pub fits-requires : goal.fits-requires
fits-requires c =
    let a = c.before.before.before in
    (held a.ranges.x a.ranges.y a.requires.0, next_within a.args.x a.args.n _ (first_is c.before.before) c.before.if-n-first.true)

pub returns-then-fits : goal.returns-then-fits
returns-then-fits c =
    let b = c.before.before.before.before in
    let a = b.before in
    from_tested a.args.x a.args.y a.requires.0 a.args.n b.first_entry-first.result (first_is b) c.before.before.before.if-n-first.true c.before.before.if-first-n.true (sym (tested c.before) ∙ c.if-fits.true)

pub returns-then-first-n : goal.returns-then-first-n
returns-then-first-n c =
    let b = c.before.before.before.before in
    let a = b.before in
    from_guess a.args.x a.args.y a.requires.0 a.args.n b.first_entry-first.result (first_is b) c.before.before.before.if-n-first.true (sym (tested c.before) ∙ c.if-fits.false)

pub returns : goal.returns
returns c = from_first c.args.x c.args.y c.requires.0 c.first_entry-first.result (c.first_entry-first.ensures ∙ ap first_entry (to_z-of_z c.ranges.x))
