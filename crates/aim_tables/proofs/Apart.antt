-- How far products and differences are apart whose parts are near. Assumes nothing.
use mathlib.Core.Path.{◌≡◌, refl, sym, subst}
use mathlib.Core.Bool.{Bool, true, false, not, cond, true≢false}
use Prim.Native.Nat.{ℕ, zero, suc, ◌+◌, ◌-◌, ◌*◌, ◌≤◌, ◌<◌}
use native.Mathlib.Nat.{zero-mul, mul-zero, mul-add, add-mul, mul-le-mul_left}
use native.Mathlib.Omega.{arith}
use borrow.Author.Tests.{ltb-true, ltb-false}
use denote.Floats.{is_true}
use lib.Dec.{T, ltb, leb, ltb→lt, nltb→le, le→leb}
use lib.IntN.{ℤ, pos, negsuc, neg_ℤ, nat_abs, sub_ℕ, ◌-ℤ◌, ◌*ℤ◌, +ℤ_idl}
use lib.Signed.{lt_z, le_z}
use Rattle.aim_tables.proofs.Parts.{up, down, neg_up, neg_down}

-- z is a − b
record Diff (z : ℤ) (a b : ℕ) : Type 0 where
  same : up z + b ≡ down z + a

-- ---- sums and products

diff_subℕ : (a b : ℕ) → Diff (sub_ℕ a b) a b
diff_subℕ a b = record { same = go (ltb a b) (ltb→lt a b) (nltb→le a b) }
  where
    less : (a b : ℕ) → a < b → 0 + b ≡ suc (b - suc a) + a
    less a b h = omega arith

    more : (a b : ℕ) → b ≤ a → a - b + b ≡ 0 + a
    more a b h = omega arith

    go : (t : Bool) → (T t → a < b) → (T (not t) → b ≤ a) → up (cond t (negsuc (b - suc a)) (pos (a - b))) + b ≡ down (cond t (negsuc (b - suc a)) (pos (a - b))) + a
    go true h k = less a b (h tt)
    go false h k = more a b (k tt)

diff_sub : (z w : ℤ) → Diff (z -ℤ w) (up z + down w) (down z + up w)
diff_sub (pos m) (pos zero) = record { same = omega arith }
diff_sub (pos m) (pos (suc n)) = record { same = omega (arith, (diff_subℕ m (suc n)).same) }
diff_sub (pos m) (negsuc n) = record { same = omega arith }
diff_sub (negsuc m) (pos zero) = record { same = omega (arith, (diff_subℕ 0 (suc m)).same) }
diff_sub (negsuc m) (pos (suc n)) = record { same = omega arith }
diff_sub (negsuc m) (negsuc n) = record { same = omega (arith, (diff_subℕ (suc n) (suc m)).same) }

diff_mul : (z w : ℤ) → Diff (z *ℤ w) (up z * up w + down z * down w) (up z * down w + down z * up w)
diff_mul (pos m) (pos n) = record { same = simp (mul-zero, zero-mul) (omega arith) }
diff_mul (pos m) (negsuc n) = record { same = simp (neg_up, neg_down, mul-zero, zero-mul) (omega arith) }
diff_mul (negsuc m) (pos n) = record { same = simp (neg_up, neg_down, mul-zero, zero-mul) (omega arith) }
diff_mul (negsuc m) (negsuc n) = record { same = simp (mul-zero, zero-mul) (omega arith) }

-- ---- near in parts

-- |z − w| ≤ e
pub record Near (e : ℕ) (z w : ℤ) : Type 0 where
  pub above : up z + down w ≤ down z + up w + e
  pub below : down z + up w ≤ up z + down w + e

size_of : (z : ℤ) → nat_abs z ≡ up z + down z
size_of (pos n) = omega arith
size_of (negsuc n) = omega arith

size_le : (z : ℤ) (a b e : ℕ) → Diff z a b → nat_abs z ≤ e → (a ≤ b + e) × (b ≤ a + e)
size_le (pos n) a b e d h = let q = d.same in (omega arith, omega arith)
size_le (negsuc n) a b e d h = let q = d.same in (omega arith, omega arith)

pub apart-near : {e : ℕ} (z w : ℤ) → nat_abs (z -ℤ w) ≤ e → Near e z w
apart-near {e} z w h = let q = size_le (z -ℤ w) (up z + down w) (down z + up w) e (diff_sub z w) h in record { above = q.0; below = q.1 }

near_of : {z w : ℤ} (a b c d e : ℕ) → Diff z a b → Diff w c d → a + d ≤ b + c + e → b + c ≤ a + d + e → Near e z w
near_of a b c d e p q h k = let p' = p.same in let q' = q.same in record { above = omega arith; below = omega arith }

-- ---- the two laws

scaled : (p q c d e : ℕ) (a b : ℕ) → c + b ≤ d + a + e → d + a ≤ c + b + e → p * c + q * d + (p * b + q * a) ≤ p * d + q * c + (p * a + q * b) + (p + q) * e
scaled p q c d e a b h k =
    let h' : p * c + p * b ≤ p * d + p * a + p * e = rw (← mul-add, ← mul-add, ← mul-add) (mul-le-mul_left p h) in
    let k' : q * d + q * a ≤ q * c + q * b + q * e = rw (← mul-add, ← mul-add, ← mul-add) (mul-le-mul_left q k) in
    rw add-mul (omega arith)

pub near_mul : {e : ℕ} (z c d : ℤ) → Near e c d → Near (nat_abs z * e) (z *ℤ c) (z *ℤ d)
near_mul {e} z c d n =
    let p = up z in
    let q = down z in
    rw (size_of z)
    (near_of (p * up c + q * down c) (p * down c + q * up c) (p * up d + q * down d) (p * down d + q * up d) ((p + q) * e) (diff_mul z c) (diff_mul z d)
    (scaled p q (up c) (down c) e (up d) (down d) n.above n.below)
    (scaled p q (down c) (up c) e (down d) (up d) n.below n.above))

pub near_sub : {e f : ℕ} (a b c d : ℤ) → Near e a c → Near f b d → Near (e + f) (a -ℤ b) (c -ℤ d)
near_sub {e} {f} a b c d n m =
    let n₁ = n.above in
    let n₀ = n.below in
    let m₁ = m.above in
    let m₀ = m.below in
    near_of (up a + down b) (down a + up b) (up c + down d) (down c + up d) (e + f) (diff_sub a b) (diff_sub c d) (omega arith) (omega arith)

size_within : (z : ℤ) (a b e : ℕ) → Diff z a b → a ≤ b + e → b ≤ a + e → nat_abs z ≤ e
size_within (pos n) a b e d h k = let q = d.same in omega arith
size_within (negsuc n) a b e d h k = let q = d.same in omega arith

pub near_apart : {e : ℕ} (z w : ℤ) → Near e z w → nat_abs (z -ℤ w) ≤ e
near_apart {e} z w n = size_within (z -ℤ w) (up z + down w) (down z + up w) e (diff_sub z w) n.above n.below

-- ---- the sign of w, where z is farther from 0 than w can be from z

pub sure_above : (z w : ℤ) (e : ℕ) → Near e z w → lt_z z (pos e) ≡ false → le_z (pos 0) w ≡ true
sure_above (negsuc m) w e n h = absurd (true≢false h)
sure_above (pos m) (pos k) e n h = is_true (leb 0 k) (le→leb 0 k (omega arith))
sure_above (pos m) (negsuc k) e n h = absurd (clash m k e (ltb-false m e h) n.above)
  where
    clash : (m k e : ℕ) → e ≤ m → m + suc k ≤ 0 + 0 + e → ⊥
    clash m k e h n = omega arith

pub sure_below : (z w : ℤ) (e : ℕ) → Near e z w → lt_z z (pos 0 -ℤ pos e) ≡ true → le_z (pos 0) w ≡ false
sure_below z (negsuc k) e n h = refl
sure_below z (pos k) e n h = absurd (clash (up z) (down z) k e n.below (low z e (subst (λ (d : ℤ). lt_z z d ≡ true) (+ℤ_idl (neg_ℤ (pos e))) h)))
  where
    low : (z : ℤ) (e : ℕ) → lt_z z (neg_ℤ (pos e)) ≡ true → up z + e < down z
    low (pos m) zero h = absurd (none m (ltb-true m 0 h))
      where
        none : (m : ℕ) → m < 0 → ⊥
        none m h = omega arith
    low (pos m) (suc e) h = absurd (true≢false (sym h))
    low (negsuc m) zero h = omega arith
    low (negsuc m) (suc e) h = omega (arith, ltb-true e m h)

    clash : (u d k e : ℕ) → d + k ≤ u + 0 + e → u + e < d → ⊥
    clash u d k e h l = omega arith

pub near_small : {e : ℕ} (z w : ℤ) → Near e z w → nat_abs z ≤ nat_abs w + e
near_small (pos m) (pos n) h = let a = h.above in omega arith
near_small (pos m) (negsuc n) h = let a = h.above in omega arith
near_small (negsuc m) (pos n) h = let b = h.below in omega arith
near_small (negsuc m) (negsuc n) h = let b = h.below in omega arith
