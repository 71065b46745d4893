use Rattle.std.proofs.Common.{◌≡◌, pos, nat_abs, sym, ◌∙◌, ap₂, to_z-of_z, w32, w64, to_z, of_z}
use borrow.Author.Rules.{sfits_of}
use Rattle.aim_tables.proofs.Whole.{widened, wide}
use Rattle.aim_rule.specs.Scan.{upright_angle, with_sign_of}
use Rattle.aim_rule.proofs.Quarters.{net_parts}
use Rattle.aim_scan.proofs.Below.{height_held}
use Rattle.aim_scan.proofs.Upright.{target}
use Rattle.aim_angle.proofs.angle.net_angle.Goals.{After-height, After-height-2}
use Rattle.aim_angle.proofs.angle.net_angle.Goals as goal

-- the height that is handed on
height_is : (c : After-height) → to_z w64 (of_z w64 c.height.result) ≡ pos (nat_abs c.before.before.args.y)
height_is c = let a = c.before.before in height_held a.args.y c.height.result a.ranges.y (sfits_of c.height.type_inv) c.height.ensures

pub overflow_cast-x : goal.overflow_cast-x
overflow_cast-x c = widened c.before.args.x c.before.ranges.x

pub upright_angle-requires : goal.upright_angle-requires
upright_angle-requires c = let a = c.before.before in rw (wide a.args.x a.ranges.x, height_is c) (target a.args.x a.args.y a.ranges.x a.ranges.y)

pub returns-then-y-lt0 : goal.returns-then-y-lt0
returns-then-y-lt0 c =
    let a = c.before.before.before.before in
    let u = c.before.upright_angle in
    let e : u.result ≡ upright_angle a.args.x (nat_abs a.args.y) = rw (wide a.args.x a.ranges.x, height_is c.before.before) at u.ensures.0 in
    to_z-of_z {w = w32} (sfits_of c.signed.type_inv) ∙ c.signed.ensures ∙ ap₂ with_sign_of (to_z-of_z a.ranges.y) e ∙ sym (net_parts a.args.x a.args.y)

-- the height that is handed on
height_is_2 : (c : After-height-2) → to_z w64 (of_z w64 c.height-2.result) ≡ pos (nat_abs c.before.before.args.y)
height_is_2 c = let a = c.before.before in height_held a.args.y c.height-2.result a.ranges.y (sfits_of c.height-2.type_inv) c.height-2.ensures

pub overflow_cast-x-2 : goal.overflow_cast-x-2
overflow_cast-x-2 c = widened c.before.args.x c.before.ranges.x

pub upright_angle-requires-2 : goal.upright_angle-requires-2
upright_angle-requires-2 c = let a = c.before.before in rw (wide a.args.x a.ranges.x, height_is_2 c) (target a.args.x a.args.y a.ranges.x a.ranges.y)

pub returns : goal.returns
returns c =
    let a = c.before.before.before.before in
    let u = c.before.upright_angle-2 in
    let e : u.result ≡ upright_angle a.args.x (nat_abs a.args.y) = rw (wide a.args.x a.ranges.x, height_is_2 c.before.before) at u.ensures.0 in
    to_z-of_z {w = w32} (sfits_of c.signed-2.type_inv) ∙ c.signed-2.ensures ∙ ap₂ with_sign_of (to_z-of_z a.ranges.y) e ∙ sym (net_parts a.args.x a.args.y)
