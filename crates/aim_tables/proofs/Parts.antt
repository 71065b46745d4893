-- A whole number as the difference of two naturals, and the sign of a difference told by them. Assumes nothing.
use mathlib.Core.Path.{◌≡◌, refl, sym, ◌∙◌}
use mathlib.Core.Bool.{Bool, true, false, not, cond}
use Prim.Native.Nat.{ℕ, zero, suc, ◌+◌, ◌-◌, ◌*◌, ◌≤◌, ◌<◌}
use native.Mathlib.Nat.{zero-mul, mul-zero}
use native.Mathlib.Omega.{arith}
use lib.Dec.{T, ltb, ltb→lt, nltb→le, le→leb}
use lib.IntN.{ℤ, pos, negsuc, neg_ℤ, sub_ℕ, ◌-ℤ◌, ◌*ℤ◌}
use lib.Signed.{le_z, lt_z}

-- z is up z − down z, and one of them is 0
abbrev pub up : ℤ → ℕ
up (pos n) = n
up (negsuc n) = 0

abbrev pub down : ℤ → ℕ
down (pos n) = 0
down (negsuc n) = suc n

-- ---- a product with a natural

pub neg_up : (n : ℕ) → up (neg_ℤ (pos n)) ≡ 0
neg_up zero = refl
neg_up (suc n) = refl

pub neg_down : (n : ℕ) → down (neg_ℤ (pos n)) ≡ n
neg_down zero = refl
neg_down (suc n) = refl

pub up_left : (n : ℕ) (z : ℤ) → up (pos n *ℤ z) ≡ n * up z
up_left n (pos m) = refl
up_left n (negsuc m) = neg_up (n * suc m) ∙ sym (mul-zero n)

pub down_left : (n : ℕ) (z : ℤ) → down (pos n *ℤ z) ≡ n * down z
down_left n (pos m) = sym (mul-zero n)
down_left n (negsuc m) = neg_down (n * suc m)

pub up_right : (z : ℤ) (n : ℕ) → up (z *ℤ pos n) ≡ up z * n
up_right (pos m) n = refl
up_right (negsuc m) n = neg_up (suc m * n) ∙ sym (zero-mul n)

pub down_right : (z : ℤ) (n : ℕ) → down (z *ℤ pos n) ≡ down z * n
down_right (pos m) n = sym (zero-mul n)
down_right (negsuc m) n = neg_down (suc m * n)

-- ---- the sign of a difference

sub_le : (a b : ℕ) → T (le_z (pos 0) (sub_ℕ a b)) → b ≤ a
sub_le a b = go (ltb a b) (nltb→le a b)
  where
    go : (t : Bool) → (T (not t) → b ≤ a) → T (le_z (pos 0) (cond t (negsuc (b - suc a)) (pos (a - b)))) → b ≤ a
    go true h k = absurd k
    go false h k = h tt

le_sub : (a b : ℕ) → b ≤ a → T (le_z (pos 0) (sub_ℕ a b))
le_sub a b h = go (ltb a b) (ltb→lt a b)
  where
    go : (t : Bool) → (T t → a < b) → T (le_z (pos 0) (cond t (negsuc (b - suc a)) (pos (a - b))))
    go true k = absurd (clash a b (k tt) h)
      where
        clash : (a b : ℕ) → a < b → b ≤ a → ⊥
        clash a b h k = omega arith
    go false k = le→leb 0 (a - b) (omega arith)

pub parts_le : (a b : ℤ) → T (le_z (pos 0) (a -ℤ b)) → down a + up b ≤ up a + down b
parts_le (pos m) (pos zero) h = omega arith
parts_le (pos m) (pos (suc n)) h = omega (arith, sub_le m (suc n) h)
parts_le (pos m) (negsuc n) h = omega arith
parts_le (negsuc m) (pos zero) h = omega (arith, sub_le 0 (suc m) h)
parts_le (negsuc m) (pos (suc n)) h = absurd h
parts_le (negsuc m) (negsuc n) h = omega (arith, sub_le (suc n) (suc m) h)

pub le_parts : (a b : ℤ) → down a + up b ≤ up a + down b → T (le_z (pos 0) (a -ℤ b))
le_parts (pos m) (pos zero) h = le→leb 0 (m + 0) (omega arith)
le_parts (pos m) (pos (suc n)) h = le_sub m (suc n) (omega arith)
le_parts (pos m) (negsuc n) h = le→leb 0 (m + suc n) (omega arith)
le_parts (negsuc m) (pos n) h = absurd (clash m n h)
  where
    clash : (m n : ℕ) → suc m + n ≤ 0 + 0 → ⊥
    clash m n h = omega arith
le_parts (negsuc m) (negsuc n) h = le_sub (suc n) (suc m) (omega arith)

pub above_le : (z : ℤ) → T (lt_z (pos 0) z) → T (le_z (pos 0) z)
above_le (pos n) h = le→leb 0 n (omega arith)
above_le (negsuc n) h = absurd h
