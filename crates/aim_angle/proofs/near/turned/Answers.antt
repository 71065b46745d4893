use Rattle.std.proofs.Common.{◌≡◌, ℕ, suc, ◌/◌, ◌^◌, ◌<◌, ◌≤◌, ℤ, pos, negsuc, ◌-ℤ◌, nat_abs, refl, ap, ap₂, le_trans, lt_of_le_of_lt, arith, lit<, lit≤, to_z-of_z, w64, SFits, to_z, of_z}
use lib.Signed.{quot_z, nat_abs-le}
use borrow.Author.Rules.{sfits_of}
use Rattle.aim_tables.proofs.Whole as Whole
use Rattle.aim_tables.proofs.Whole.{sfits_abs, nat_abs_neg, opposite_size}
use Rattle.aim_angle.specs.Near.{turned}
use Rattle.aim_angle.proofs.near.turned.Goals as goal

wide : {n : ℕ} → n ≤ 2 ^ 30 → n ≤ 2 ^ 31
wide h = le_trans h (lit≤ tt)

narrow : {n : ℕ} → n ≤ 2 ^ 30 → n < 2 ^ 31
narrow h = lt_of_le_of_lt h (lit< tt)

opposite_small : (z : ℤ) → nat_abs z ≤ 2 ^ 30 → nat_abs (pos 0 -ℤ z) ≤ 2 ^ 30
opposite_small z h = rw opposite_size h

opposite_fits : (z : ℤ) → nat_abs z ≤ 2 ^ 30 → SFits w64 (pos 0 -ℤ z)
opposite_fits z h = Whole.opposite_fits z (lt_of_le_of_lt h (lit< tt))

quot_size : (z : ℤ) → nat_abs (quot_z z (pos 1073741824)) ≡ nat_abs z / 1073741824
quot_size (pos n) = refl
quot_size (negsuc n) = nat_abs_neg (pos (suc n / 1073741824))

quot_fits : (z : ℤ) → SFits w64 z → SFits w64 (quot_z z (pos 1073741824))
quot_fits z f = sfits_abs (quot_z z (pos 1073741824)) (small (nat_abs (quot_z z (pos 1073741824))) (nat_abs z) (quot_size z) (nat_abs-le z f.sfits))
  where
    small : (q n : ℕ) → q ≡ n / 1073741824 → n ≤ 2 ^ 63 → q < 2 ^ 63
    small q n e h = omega arith

-- what the code makes of a quotient
quotient : (z w : ℤ) → SFits w64 z → z ≡ w → to_z w64 (of_z w64 (quot_z (to_z w64 (of_z w64 z)) (pos 1073741824))) ≡ quot_z w (pos 1073741824)
quotient z w f e = rw (to_z-of_z f, to_z-of_z (quot_fits z f)) (ap (λ (x : ℤ). quot_z x (pos 1073741824)) e)

pub cross-cosine-requires : goal.cross-cosine-requires
cross-cosine-requires c = rw (to_z-of_z c.ranges.c, to_z-of_z c.ranges.s, to_z-of_z c.ranges.d, to_z-of_z c.ranges.t) (wide c.requires.0, narrow c.requires.2, wide c.requires.1, narrow c.requires.3)

pub overflow_sub-c : goal.overflow_sub-c
overflow_sub-c c = rw (to_z-of_z c.before.ranges.c) (opposite_fits c.before.args.c c.before.requires.0)

pub cross-sine-requires : goal.cross-sine-requires
cross-sine-requires c =
    let a = c.before in
    rw (to_z-of_z a.ranges.c, to_z-of_z a.ranges.s, to_z-of_z a.ranges.d, to_z-of_z a.ranges.t, to_z-of_z (opposite_fits a.args.c a.requires.0))
    (wide a.requires.1, narrow a.requires.2, wide (opposite_small a.args.c a.requires.0), narrow a.requires.3)

pub nonzero_div-result : goal.nonzero_div-result
nonzero_div-result c = rw (to_z-of_z (sfits_of c.before.cross-cosine.type_inv)) (lit< tt, quot_fits c.before.cross-cosine.result (sfits_of c.before.cross-cosine.type_inv))

pub nonzero_div-result-2 : goal.nonzero_div-result-2
nonzero_div-result-2 c = rw (to_z-of_z (sfits_of c.cross-sine.type_inv)) (lit< tt, quot_fits c.cross-sine.result (sfits_of c.cross-sine.type_inv))

pub returns : goal.returns
unfolding turned
returns c =
    let a = c.before.before in
    let cosine = simp (to_z-of_z a.ranges.c, to_z-of_z a.ranges.s, to_z-of_z a.ranges.d, to_z-of_z a.ranges.t) at c.before.cross-cosine.ensures in
    let sine = simp (to_z-of_z a.ranges.c, to_z-of_z a.ranges.s, to_z-of_z a.ranges.d, to_z-of_z a.ranges.t, to_z-of_z (opposite_fits a.args.c a.requires.0)) at c.cross-sine.ensures in
    ap₂ (λ (u v : ℤ). record { c = u; s = v }) (quotient c.before.cross-cosine.result _ (sfits_of c.before.cross-cosine.type_inv) cosine) (quotient c.cross-sine.result _ (sfits_of c.cross-sine.type_inv) sine)
