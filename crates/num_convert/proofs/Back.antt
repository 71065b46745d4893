-- The bits of a u32 as i32 are in its range, and lead back. Assumes nothing.
use Rattle.std.proofs.Common.{◌≡◌, ℕ, suc, ◌-◌, ◌^◌, ◌<◌, ◌≤◌, Bool, true, false, cond, not, T, ltb, pos, negsuc, refl, arith, ltb→lt, nltb→le}
use lib.Signed.{mag}
use Rattle.num_convert.specs.Casts.{cast_signed, cast_unsigned}

pub signed_in : (n : ℕ) → mag (cast_signed n) < 2 ^ 31
unfolding cast_signed
signed_in n = go (ltb n (2 ^ 31)) (ltb→lt n (2 ^ 31)) (nltb→le n (2 ^ 31))
  where
    go : (b : Bool) → (T b → n < 2 ^ 31) → (T (not b) → 2 ^ 31 ≤ n) → mag (cond b (pos n) (negsuc (2 ^ 32 - suc n))) < 2 ^ 31
    go true p q = p tt
    go false p q = omega (arith, q tt)

pub cast_back : (n : ℕ) → n < 2 ^ 32 → cast_unsigned (cast_signed n) ≡ n
unfolding cast_signed cast_unsigned
cast_back n h = go (ltb n (2 ^ 31))
  where
    go : (b : Bool) → cast_unsigned (cond b (pos n) (negsuc (2 ^ 32 - suc n))) ≡ n
    go true = refl
    go false = omega arith
