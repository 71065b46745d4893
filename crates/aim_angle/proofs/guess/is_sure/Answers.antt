use Rattle.std.proofs.Common.{◌≡◌, ℕ, ◌^◌, ◌<◌, ◌≤◌, true, false, ℤ, pos, ◌-ℤ◌, nat_abs, sym, ◌∙◌, subst, ap₂, true≢false, lt_irrefl, arith, to_z-of_z, w64, SFits, to_z, of_z}
use lib.Signed.{lt_z}
use borrow.Author.Rules.{sfits_of}
use Rattle.aim_tables.proofs.Whole.{opposite_fits}
use Rattle.aim_tables.proofs.Apart.{apart-near, sure_above, sure_below}
use Rattle.aim_tables.specs.Rules.{apart}
use Rattle.aim_rule.specs.Angle.{side, fitting, upper_angle}
use Rattle.aim_rule.specs.Search.{Target, doubt}
use Rattle.aim_rule.proofs.Search.{held, angle_end}
use Rattle.aim_angle.proofs.guess.is_sure.Goals as goal

module _ (x y : ℤ) (t : Target x y) (d : ℤ) (f : SFits w64 d) (e : d ≡ pos (doubt x y)) where
  small : nat_abs d < 2 ^ 63
  small = let p = t.x_small in let q = t.y_small in rw e (omega arith)

  away : SFits w64 (pos 0 -ℤ to_z w64 (of_z w64 d))
  away = rw (to_z-of_z f) (opposite_fits d small)

  module _ (n : ℕ) (r : ℤ) (g : SFits w64 r) (h : apart r (side x y n) ≤ doubt x y) where
    fits : lt_z (to_z w64 (of_z w64 r)) (to_z w64 (of_z w64 d)) ≡ false → fitting x y n ≡ true
    fits k = sure_above r (side x y n) (doubt x y) (apart-near r (side x y n) h) (rw (to_z-of_z g, to_z-of_z f, e) at k)

    misses : lt_z (to_z w64 (of_z w64 r)) (to_z w64 (of_z w64 (pos 0 -ℤ to_z w64 (of_z w64 d)))) ≡ true → fitting x y n ≡ false
    misses k = sure_below r (side x y n) (doubt x y) (apart-near r (side x y n) h) (rw (to_z-of_z g, to_z-of_z away, to_z-of_z f, e) at k)

pub returns-then-near_side-doubt : goal.returns-then-near_side-doubt
returns-then-near_side-doubt c e = absurd (true≢false (sym e))

pub returns-then-n-eq804 : goal.returns-then-n-eq804
returns-then-n-eq804 c e =
    let a = c.before.before.before.before in
    let d = c.before.before.before.doubt-doubt in
    let s = c.before.before.near_side in
    let t = held a.ranges.x a.ranges.y a.requires.0 in
    let n : a.args.n ≡ 804 = c.if-n-eq804.true in
    angle_end _ _ a.args.n t a.requires.1
    (fits _ _ t d.result (sfits_of d.type_inv) d.ensures a.args.n s.result (sfits_of s.type_inv) s.ensures c.before.if-near_side-doubt.false)
    (λ l. absurd (lt_irrefl 804 (subst (λ (m : ℕ). m < 804) n l)))
    ∙ ap₂ upper_angle (to_z-of_z a.ranges.x) (to_z-of_z a.ranges.y)

pub overflow_sub-result : goal.overflow_sub-result
overflow_sub-result c =
    let a = c.before.before.before.before.before in
    let d = c.before.before.before.before.doubt-doubt in
    away _ _ (held a.ranges.x a.ranges.y a.requires.0) d.result (sfits_of d.type_inv) d.ensures

pub returns-else-n-eq804 : goal.returns-else-n-eq804
returns-else-n-eq804 c e =
    let a = c.before.before.before.before.before in
    let d = c.before.before.before.before.doubt-doubt in
    let s = c.before.before.before.near_side in
    let u = c.near_side-else-n-eq804 in
    let t = held a.ranges.x a.ranges.y a.requires.0 in
    angle_end _ _ a.args.n t a.requires.1
    (fits _ _ t d.result (sfits_of d.type_inv) d.ensures a.args.n s.result (sfits_of s.type_inv) s.ensures c.before.before.if-near_side-doubt.false)
    (λ l. misses _ _ t d.result (sfits_of d.type_inv) d.ensures _ u.result (sfits_of u.type_inv) u.ensures e)
    ∙ ap₂ upper_angle (to_z-of_z a.ranges.x) (to_z-of_z a.ranges.y)
