use mathlib.Core.Path.{◌≡◌, sym, ap, ap₂, ◌∙◌}
use mathlib.Core.Bool.{cond}
use Prim.Native.Nat.{ℕ, ◌+◌, ◌-◌}
use lib.IntN.{ℤ, pos, nat_abs}
use mir.Syntax.{w32, w64}
use mir.Val.{to_z, of_z}
use mir.Facts.{to_z-of_z}
use borrow.Author.Rules.{sfits_of}
use Rattle.aim_tables.proofs.Whole.{widened, wide}
use Rattle.aim_rule.specs.Scan.{is_zero, with_sign_of, first_entry, entries_read}
use Rattle.aim_rule.proofs.Quarters.{net_parts, net_size}
use Rattle.aim_scan.specs.Scan.{scanned, upright_scan}
use Rattle.aim_scan.specs.declared.scan.Found.{Found}
use Rattle.aim_scan.proofs.Below.{height_held}
use Rattle.aim_scan.proofs.Upright.{target}
use Rattle.aim_scan.proofs.scan.scan_angle.Goals.{After-height}
use Rattle.aim_scan.proofs.scan.scan_angle.Goals as goal

whole : (x y : ℤ) (f : Found) (a : ℤ) → f ≡ upright_scan x (nat_abs y) → a ≡ with_sign_of y f.n → record { angle = a; read = f.read } ≡ scanned x y
unfolding entries_read
whole x y f a e s =
    ap₂ (λ (b : ℤ) (k : ℕ). record { angle = b; read = k })
    (s ∙ ap (λ (g : Found). with_sign_of y g.n) e ∙ sym (net_parts x y))
    (ap (λ (g : Found). g.read) e ∙ ap (λ (k : ℕ). cond (is_zero x (nat_abs y)) 0 (first_entry x + 1 - k)) (sym (net_size x y)))

-- the height that is handed on
height_is : (c : After-height) → to_z w64 (of_z w64 c.height.result) ≡ pos (nat_abs c.before.args.y)
height_is c = height_held c.before.args.y c.height.result c.before.ranges.y (sfits_of c.height.type_inv) c.height.ensures

pub overflow_cast-x : goal.overflow_cast-x
overflow_cast-x c = widened c.args.x c.ranges.x

pub upright_scan-found-requires : goal.upright_scan-found-requires
upright_scan-found-requires c = let a = c.before in rw (wide a.args.x a.ranges.x, height_is c) (target a.args.x a.args.y a.ranges.x a.ranges.y)

pub returns : goal.returns
returns c =
    let a = c.before.before.before in
    let u = c.before.upright_scan-found in
    let e : u.result ≡ upright_scan a.args.x (nat_abs a.args.y) = rw (wide a.args.x a.ranges.x, height_is c.before.before) at u.ensures.0 in
    whole a.args.x a.args.y u.result (to_z w32 (of_z w32 c.signed.result)) e (to_z-of_z {w = w32} (sfits_of c.signed.type_inv) ∙ c.signed.ensures ∙ ap (λ (z : ℤ). with_sign_of z u.result.n) (to_z-of_z a.ranges.y))
