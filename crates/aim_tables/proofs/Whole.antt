-- The size of a whole number under the operations, and when a signed machine number holds one. Assumes nothing.
use mathlib.Core.Path.{◌≡◌, refl, sym, ap, ◌∙◌, subst}
use mathlib.Core.Bool.{Bool, true, false, cond}
use Prim.Native.Nat.{ℕ, zero, suc, ◌+◌, ◌-◌, ◌*◌, ◌^◌, ◌≤◌, ◌<◌}
use native.Mathlib.Nat.{le_refl, le_trans, le_of_eq, lt_of_le_of_lt, mul-le-mul}
use native.Mathlib.Omega.{arith}
use lib.Dec.{T, ltb, ltb→lt}
use lib.IntN.{ℤ, pos, negsuc, neg_ℤ, nat_abs, sub_ℕ, ◌+ℤ◌, ◌-ℤ◌, ◌*ℤ◌, +ℤ_idl}
use lib.Signed.{mag}
use mir.Syntax.{Width, w32, w64}
use mir.Val.{SFits, hbits, to_z, of_z}
use mir.Facts.{to_z-of_z, sfits_widen}

pub nat_abs_neg : (z : ℤ) → nat_abs (neg_ℤ z) ≡ nat_abs z
nat_abs_neg (pos zero) = refl
nat_abs_neg (pos (suc n)) = refl
nat_abs_neg (negsuc n) = refl

nat_abs_negpos : (n : ℕ) → nat_abs (neg_ℤ (pos n)) ≡ n
nat_abs_negpos n = nat_abs_neg (pos n)

pub nat_abs_mul : (a b : ℤ) → nat_abs (a *ℤ b) ≡ nat_abs a * nat_abs b
nat_abs_mul (pos a) (pos b) = refl
nat_abs_mul (pos a) (negsuc b) = nat_abs_negpos (a * suc b)
nat_abs_mul (negsuc a) (pos b) = nat_abs_negpos (suc a * b)
nat_abs_mul (negsuc a) (negsuc b) = refl

nat_abs_subℕ : (a b : ℕ) → nat_abs (sub_ℕ a b) ≤ a + b
nat_abs_subℕ a b = go (ltb a b) (ltb→lt a b)
  where
    less : (a b : ℕ) → a < b → suc (b - suc a) ≤ a + b
    less a b h = omega arith

    more : (a b : ℕ) → a - b ≤ a + b
    more a b = omega arith

    go : (t : Bool) → (T t → a < b) → nat_abs (cond t (negsuc (b - suc a)) (pos (a - b))) ≤ a + b
    go true h = less a b (h tt)
    go false h = more a b

pub nat_abs_add : (a b : ℤ) → nat_abs (a +ℤ b) ≤ nat_abs a + nat_abs b
nat_abs_add (pos a) (pos b) = le_refl (a + b)
nat_abs_add (pos a) (negsuc b) = nat_abs_subℕ a (suc b)
nat_abs_add (negsuc a) (pos b) = turn (suc a) b (nat_abs_subℕ b (suc a))
  where
    turn : (x y : ℕ) → nat_abs (sub_ℕ y x) ≤ y + x → nat_abs (sub_ℕ y x) ≤ x + y
    turn x y h = omega arith
nat_abs_add (negsuc a) (negsuc b) = more a b
  where
    more : (a b : ℕ) → suc (suc (a + b)) ≤ suc a + suc b
    more a b = omega arith

pub nat_abs_sub : (a b : ℤ) → nat_abs (a -ℤ b) ≤ nat_abs a + nat_abs b
nat_abs_sub a b = le_trans (nat_abs_add a (neg_ℤ b)) (le_of_eq (ap (λ (n : ℕ). nat_abs a + n) (nat_abs_neg b)))

mag_le : (z : ℤ) → mag z ≤ nat_abs z
mag_le (pos n) = le_refl n
mag_le (negsuc n) = small n
  where
    small : (n : ℕ) → n ≤ suc n
    small n = omega arith

-- a signed width holds what is small enough
pub sfits_abs : {w : Width} (z : ℤ) → nat_abs z < 2 ^ hbits w → SFits w z
sfits_abs z h = record { sfits = lt_of_le_of_lt (mag_le z) h }

pub mul_abs : (a b : ℤ) {m n : ℕ} → nat_abs a ≤ m → nat_abs b ≤ n → nat_abs (a *ℤ b) ≤ m * n
mul_abs a b h k = le_trans (le_of_eq (nat_abs_mul a b)) (mul-le-mul h k)

-- ---- an i32 that is made an i64

pub widened : (z : ℤ) → SFits w32 z → SFits w64 (to_z w32 (of_z w32 z))
widened z f = rw (to_z-of_z f) (sfits_widen tt f)

pub wide : (z : ℤ) → SFits w32 z → to_z w64 (of_z w64 (to_z w32 (of_z w32 z))) ≡ z
wide z f = ap (λ (x : ℤ). to_z w64 (of_z w64 x)) (to_z-of_z f) ∙ to_z-of_z {w = w64} (sfits_widen {w = w32} {w' = w64} {z = z} (tt {0}) f)

-- ---- the opposite, as the machine makes it

pub opposite : (z : ℤ) → pos 0 -ℤ z ≡ neg_ℤ z
opposite z = +ℤ_idl (neg_ℤ z)

pub opposite_size : (z : ℤ) → nat_abs (pos 0 -ℤ z) ≡ nat_abs z
opposite_size z = ap nat_abs (opposite z) ∙ nat_abs_neg z

pub opposite_fits : {w : Width} (z : ℤ) → nat_abs z < 2 ^ hbits w → SFits w (pos 0 -ℤ z)
opposite_fits {w} z h = sfits_abs (pos 0 -ℤ z) (subst (λ (n : ℕ). n < 2 ^ hbits w) (sym (opposite_size z)) h)
