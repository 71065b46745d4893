use Rattle.std.proofs.Common.{◌≡◌, ◌^◌, ◌≤◌, T, ℤ, pos, negsuc, nat_abs, sym, refl, ap, ◌∙◌, ap₂, le_trans, lit≤, le→leb, lt→ltb, to_z-of_z, w64, of_z}
use lib.Ieee.{binary64, in_float}
use Rattle.aim_rule.specs.Angle.{upper_angle}
use Rattle.aim_rule.specs.Scan.{upright_angle}
use Rattle.aim_scan.proofs.Below.{bits_zero}
use Rattle.aim_scan.proofs.Upright.{angle_is, up_is}
use Rattle.aim_angle.proofs.angle.upright_angle.Goals as goal

exact : (z : ℤ) → nat_abs z ≤ 2 ^ 31 → T (in_float binary64 z)
unfolding in_float
exact (pos n) h = le→leb n (2 ^ 53) (le_trans h (lit≤ tt))
exact (negsuc n) h = lt→ltb n (2 ^ 53) (le_trans h (lit≤ tt))

pub returns-then-y-eq0 : goal.returns-then-y-eq0
returns-then-y-eq0 c =
    let a = c.before.before in
    let z = bits_zero a.args.y a.ranges.y c.before.if-y-eq0.true refl in
    (c.along_x.ensures.0 ∙ ap₂ (λ (x y : ℤ). upright_angle x (nat_abs y)) (to_z-of_z a.ranges.x) (sym z), c.along_x.ensures.1)

pub int_to_float-x : goal.int_to_float-x
int_to_float-x c = let a = c.before.before in rw (to_z-of_z a.ranges.x) (exact a.args.x a.requires.x_small)

pub int_to_float-y : goal.int_to_float-y
int_to_float-y c = let a = c.before.before.before in rw (to_z-of_z a.ranges.y) (exact a.args.y a.requires.y_small)

pub returns-then-is_sure : goal.returns-then-is_sure
returns-then-is_sure c =
    let a = c.before.before.before.before.before.before in
    let n : a.args.y ≡ pos 0 → a.args.x ≡ pos 0 → ⊥ = λ p q. c.before.before.before.before.before.if-y-eq0.false (ap (of_z w64) p) in
    (c.before.is_sure.ensures c.if-is_sure.true ∙ ap₂ upper_angle (to_z-of_z a.ranges.x) (to_z-of_z a.ranges.y) ∙ angle_is a.args.x a.args.y a.requires n, c.before.before.guess-n.ensures)

pub returns-then-x-eq0 : goal.returns-then-x-eq0
returns-then-x-eq0 c =
    let a = c.before.before.before.before.before.before.before in
    (up_is a.args.x a.args.y a.requires (bits_zero a.args.x a.ranges.x c.if-x-eq0.true refl) (λ p. c.before.before.before.before.before.before.if-y-eq0.false (ap (of_z w64) p)), lit≤ tt)

pub returns : goal.returns
returns c =
    let a = c.before.before.before.before.before.before.before.before in
    let f = c.settled-found in
    let n : a.args.y ≡ pos 0 → a.args.x ≡ pos 0 → ⊥ = λ p q. c.before.before.before.before.before.before.before.if-y-eq0.false (ap (of_z w64) p) in
    (f.ensures.0 ∙ ap₂ upper_angle (to_z-of_z a.ranges.x) (to_z-of_z a.ranges.y) ∙ angle_is a.args.x a.args.y a.requires n, f.ensures.1)
