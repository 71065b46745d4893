use Rattle.std.proofs.Common.{◌≡◌, ◌+◌, ◌^◌, ◌<◌, ◌≤◌, ℤ, ◌-ℤ◌, ◌*ℤ◌, nat_abs, lt_of_lt_of_le, arith, lit≤, to_z-of_z, w64, to_z, of_z}
use borrow.Author.Rules.{sfits_of}
use Rattle.aim_tables.proofs.Whole.{sfits_abs}
use Rattle.aim_tables.proofs.Apart.{apart-near, near_apart, near_mul, near_sub, near_small}
use Rattle.aim_tables.specs.Rules.{cos_at, sin_at, apart}
use Rattle.aim_tables.proofs.Rules.{small}
use Rattle.aim_rule.specs.Angle.{side}
use Rattle.aim_rule.specs.Search.{doubt}
use Rattle.aim_angle.proofs.guess.near_side.Goals as goal

-- an entry that is known up to 2
module _ (z e : ℤ) (p : nat_abs (z -ℤ e) ≤ 2) (h : nat_abs e ≤ 2 ^ 30) where
  entry_small : nat_abs z < 2 ^ 31
  entry_small = let k : nat_abs z ≤ nat_abs e + 2 = near_small z e (apart-near z e p) in omega arith

  entry : to_z w64 (of_z w64 z) ≡ z
  entry = to_z-of_z {w = w64} (sfits_abs z (lt_of_lt_of_le entry_small (lit≤ tt)))

off : (x y p q c s : ℤ) → apart p c ≤ 2 → apart q s ≤ 2 → apart (y *ℤ p -ℤ x *ℤ q) (y *ℤ c -ℤ x *ℤ s) ≤ doubt x y
off x y p q c s h k = near_apart (y *ℤ p -ℤ x *ℤ q) (y *ℤ c -ℤ x *ℤ s) (near_sub (y *ℤ p) (x *ℤ q) (y *ℤ c) (x *ℤ s) (near_mul y p c (apart-near p c h)) (near_mul x q s (apart-near q s k)))

pub cross-requires : goal.cross-requires
cross-requires c =
    let a = c.before.before.before in
    let p = c.before.before.near-p in
    let z = small a.args.n (omega arith) in
    rw (to_z-of_z a.ranges.y, to_z-of_z a.ranges.x, entry p.result.c (cos_at a.args.n) p.ensures.0 z.0, entry p.result.s (sin_at a.args.n) p.ensures.1 z.1)
    (a.requires.0.y_small, entry_small p.result.c (cos_at a.args.n) p.ensures.0 z.0, a.requires.0.x_small, entry_small p.result.s (sin_at a.args.n) p.ensures.1 z.1)

pub returns : goal.returns
unfolding side
returns c =
    let a = c.before.before.before.before in
    let p = c.before.before.before.near-p in
    let z = small a.args.n (omega arith) in
    let e = rw (to_z-of_z a.ranges.y, to_z-of_z a.ranges.x, entry p.result.c (cos_at a.args.n) p.ensures.0 z.0, entry p.result.s (sin_at a.args.n) p.ensures.1 z.1) at c.cross.ensures in
    rw (to_z-of_z (sfits_of c.cross.type_inv), e) (off a.args.x a.args.y p.result.c p.result.s _ _ p.ensures.0 p.ensures.1)
