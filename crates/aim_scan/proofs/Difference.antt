-- A comparison in place of a difference: b is at most a where a less b is not below 0. Assumes nothing.
use mathlib.Core.Path.{◌≡◌, refl}
use mathlib.Core.Bool.{Bool, true, false}
use Prim.Native.Nat.{suc, ◌+◌, ◌≤◌}
use native.Mathlib.Omega.{arith}
use lib.Dec.{T, leb→le, le→leb}
use lib.IntN.{ℤ, pos, negsuc, ◌-ℤ◌}
use lib.Signed.{le_z}
use Rattle.aim_tables.proofs.Parts.{up, down, parts_le, le_parts}

le_up : (a b : ℤ) → T (le_z b a) → down a + up b ≤ up a + down b
le_up (pos m) (pos n) h = omega (arith, leb→le n m h)
le_up (pos m) (negsuc n) h = omega arith
le_up (negsuc m) (pos n) h = absurd h
le_up (negsuc m) (negsuc n) h = omega (arith, leb→le m n h)

up_le : (a b : ℤ) → down a + up b ≤ up a + down b → T (le_z b a)
up_le (pos m) (pos n) h = le→leb n m (omega arith)
up_le (pos m) (negsuc n) h = tt
up_le (negsuc m) (pos n) h = absurd (clash h)
  where
    clash : suc m + n ≤ 0 + 0 → ⊥
    clash h = omega arith
up_le (negsuc m) (negsuc n) h = le→leb m n (omega arith)

alike : (p q : Bool) → (T p → T q) → (T q → T p) → p ≡ q
alike true true f g = refl
alike true false f g = absurd (f tt)
alike false true f g = absurd (g tt)
alike false false f g = refl

pub le_difference : (a b : ℤ) → le_z b a ≡ le_z (pos 0) (a -ℤ b)
le_difference a b = alike (le_z b a) (le_z (pos 0) (a -ℤ b)) (λ h. le_parts a b (le_up a b h)) (λ h. up_le a b (parts_le a b h))
