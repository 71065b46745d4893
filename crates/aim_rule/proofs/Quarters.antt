-- The quarter that the signs of a target allow: nothing above entry 402 fits where x is above 0, and 402 fits where it is not. Assumes nothing.
use mathlib.Core.Path.{◌≡◌, refl, sym, ap, ◌∙◌}
use mathlib.Core.Bool.{Bool, true, false, cond, true≢false}
use mathlib.Core.Logic.{⊎_elim}
use Prim.Native.Nat.{ℕ, zero, suc, ◌+◌, ◌*◌, ◌≤◌, ◌<◌}
use native.Mathlib.Nat.{le_trans, le_refl, zero-mul, mul-zero, mul-le-mul, eq-or-lt_of_le, lt_irrefl, le_of_lt}
use native.Mathlib.Omega.{arith}
use denote.Floats.{passes, is_true}
use lib.Dec.{leb, lit≤, eqb-suc-zero}
use borrow.Author.Tests.{leb-true, leb-false, lt-ltb}
use lib.IntN.{ℤ, pos, negsuc, nat_abs, ◌-ℤ◌, ◌*ℤ◌}
use lib.Signed.{le_z}
use Rattle.aim_tables.specs.Tables.{cos_t, sin_t}
use Rattle.aim_tables.specs.Rules.{cos_at, sin_at}
use Rattle.aim_tables.proofs.Parts.{up, down, up_left, down_left, up_right, down_right, parts_le, le_parts}
use Rattle.aim_tables.proofs.Whole.{nat_abs_neg}
use Rattle.aim_rule.specs.Angle.{side, fitting, largest, upper_angle, net_angle, Largest}
use Rattle.aim_rule.specs.Scan.{is_zero, upright_angle, with_sign_of, first_entry}
use Rattle.aim_rule.proofs.Stretch.{fitting_stretch, zero_fits}
use Rattle.aim_rule.proofs.Largest.{largest_is, stretch_end}
use Rattle.aim_rule.proofs.Search.{angle_largest}

-- ---- an entry by its two numbers
module _ (x : ℤ) (y n : ℕ) (c : ℤ) (s : ℕ) (e : cos_at n ≡ c) (f : sin_at n ≡ pos s) where
  fits : y * down c + up x * s ≤ y * up c + down x * s → fitting x (pos y) n ≡ true
  unfolding side
  fits h = rw (e, f) (is_true (le_z (pos 0) (pos y *ℤ c -ℤ x *ℤ pos s)) (le_parts (pos y *ℤ c) (x *ℤ pos s) (rw (down_left, up_right, up_left, down_right) h)))

  misses : (y * down c + up x * s ≤ y * up c + down x * s → ⊥) → fitting x (pos y) n ≡ false
  unfolding side
  misses h = rw (e, f) (go (le_z (pos 0) (pos y *ℤ c -ℤ x *ℤ pos s)) refl)
    where
      go : (b : Bool) → le_z (pos 0) (pos y *ℤ c -ℤ x *ℤ pos s) ≡ b → b ≡ false
      go true q = absurd (h (rw (← down_left, ← up_right, ← up_left, ← down_right) (parts_le (pos y *ℤ c) (x *ℤ pos s) (passes (le_z (pos 0) (pos y *ℤ c -ℤ x *ℤ pos s)) q))))
      go false q = refl

-- ---- the signs of the entries at the ends of the quarters
cos_402 : down (cos_at 402) ≡ 0
unfolding cos_t
cos_402 = refl

sin_402 : sin_at 402 ≡ pos (up (sin_at 402))
unfolding sin_t
sin_402 = refl

cos_403 : up (cos_at 403) ≡ 0
unfolding cos_t
cos_403 = refl

cos_403_below : 1 ≤ down (cos_at 403)
unfolding cos_t
cos_403_below = lit≤ tt

sin_403 : sin_at 403 ≡ pos (up (sin_at 403))
unfolding sin_t
sin_403 = refl

sin_403_above : 1 ≤ up (sin_at 403)
unfolding sin_t
sin_403_above = lit≤ tt

sin_1 : sin_at 1 ≡ pos (up (sin_at 1))
unfolding sin_t
sin_1 = refl

sin_1_above : 1 ≤ up (sin_at 1)
unfolding sin_t
sin_1_above = lit≤ tt

sin_804 : sin_at 804 ≡ pos (up (sin_at 804))
unfolding sin_t
sin_804 = refl

-- ---- what they decide
nothing : (b : ℕ) {a : ℕ} → a ≡ 0 → b * a ≡ 0
nothing b e = ap (λ (k : ℕ). b * k) e ∙ mul-zero b

something : {a b : ℕ} → 1 ≤ a → 1 ≤ b → 1 ≤ a * b
something h k = mul-le-mul h k

right_of_402 : (x y : ℕ) → fitting (pos (suc x)) (pos y) 403 ≡ false
right_of_402 x y =
    let s = up (sin_at 403) in
    misses (pos (suc x)) y 403 (cos_at 403) s refl sin_403
    (λ h. let a = nothing y cos_403 in let b = something {a = suc x} (omega arith) sin_403_above in let z = zero-mul s in omega (arith, h, a, b, z))

left_at_402 : (x : ℤ) (y : ℕ) → up x ≡ 0 → fitting x (pos y) 402 ≡ true
left_at_402 x y e =
    let s = up (sin_at 402) in
    fits x y 402 (cos_at 402) s refl sin_402 (let a = nothing y cos_402 in let b = ap (λ (k : ℕ). k * s) e ∙ zero-mul s in omega (arith, a, b))

pub first_right : (x : ℕ) → first_entry (pos (suc x)) ≡ 402
first_right x = rw (lt-ltb 0 (suc x) (omega arith)) refl

-- a scan may begin at any entry above which the next does not fit
pub from_below : (x : ℤ) (y m : ℕ) → m < 804 → fitting x (pos y) (suc m) ≡ false → largest (fitting x (pos y)) m ≡ upper_angle x (pos y)
unfolding upper_angle
from_below x y m h e =
    let p = fitting x (pos y) in
    let l = largest_is p (zero_fits x y) m in
    stretch_end p 804 (largest p m) (fitting_stretch x y) (le_trans l.within (le_of_lt h)) l.passes (λ k. next (largest p m) l)
  where
    next : (n : ℕ) → Largest (fitting x (pos y)) m n → fitting x (pos y) (suc n) ≡ false
    next n l = ⊎_elim (λ q. ap (λ (i : ℕ). fitting x (pos y) (suc i)) q ∙ e) (λ k. l.none_above (suc n) (le_refl (suc n)) k) (eq-or-lt_of_le l.within)

-- a scan from the first entry of its quarter finds the angle
pub quarter : (x : ℤ) (y : ℕ) → largest (fitting x (pos y)) (first_entry x) ≡ upper_angle x (pos y)
unfolding upper_angle
quarter (pos zero) y = refl
quarter (negsuc x) y = refl
quarter (pos (suc x)) y = rw (first_right x) (from_below (pos (suc x)) y 402 (lit≤ tt) (right_of_402 x y))

-- ---- where x is not above 0 the angle is 402 or more
pub not_less : (x : ℤ) (y : ℕ) → up x ≡ 0 → 402 ≤ upper_angle x (pos y)
not_less x y e = go (angle_largest x y) (leb 402 (upper_angle x (pos y))) refl
  where
    go : Largest (fitting x (pos y)) 804 (upper_angle x (pos y)) → (b : Bool) → leb 402 (upper_angle x (pos y)) ≡ b → 402 ≤ upper_angle x (pos y)
    go l true q = leb-true 402 (upper_angle x (pos y)) q
    go l false q = absurd (true≢false (sym (left_at_402 x y e) ∙ l.none_above 402 (leb-false 402 (upper_angle x (pos y)) q) (lit≤ tt)))

-- ---- the axes
pub axis_right : (x : ℕ) → upper_angle (pos (suc x)) (pos 0) ≡ 0
unfolding upper_angle
axis_right x = sym (stretch_end (fitting (pos (suc x)) (pos 0)) 804 0 (fitting_stretch (pos (suc x)) 0) (lit≤ tt) (zero_fits (pos (suc x)) 0)
    (λ h. misses (pos (suc x)) 0 1 (cos_at 1) (up (sin_at 1)) refl sin_1 (λ k. let b = something {a = suc x} (omega arith) sin_1_above in let z = zero-mul (up (sin_at 1)) in let c = zero-mul (down (cos_at 1)) in let d = zero-mul (up (cos_at 1)) in omega (arith, k, b, z, c, d))))

pub axis_left : (x : ℕ) → upper_angle (negsuc x) (pos 0) ≡ 804
unfolding upper_angle
axis_left x = sym (stretch_end (fitting (negsuc x) (pos 0)) 804 804 (fitting_stretch (negsuc x) 0) (lit≤ tt)
    (fits (negsuc x) 0 804 (cos_at 804) (up (sin_at 804)) refl sin_804 (let z = zero-mul (up (sin_at 804)) in let c = zero-mul (down (cos_at 804)) in omega (arith, z, c)))
    (λ h. absurd (lt_irrefl 804 h)))

pub axis_up : (y : ℕ) → upper_angle (pos 0) (pos (suc y)) ≡ 402
unfolding upper_angle
axis_up y = sym (stretch_end (fitting (pos 0) (pos (suc y))) 804 402 (fitting_stretch (pos 0) (suc y)) (lit≤ tt) (left_at_402 (pos 0) (suc y) refl)
    (λ h. misses (pos 0) (suc y) 403 (cos_at 403) (up (sin_at 403)) refl sin_403 (λ k. let a = nothing (suc y) cos_403 in let b = something {a = suc y} (omega arith) cos_403_below in let z = zero-mul (up (sin_at 403)) in omega (arith, k, a, b, z))))

-- ---- the angle in parts: its size, and the sign of y
pick : (b : Bool) (m n : ℕ) → cond b (pos m) (pos n) ≡ pos (cond b m n)
pick true m n = refl
pick false m n = refl

pub net_parts : (x y : ℤ) → net_angle x y ≡ with_sign_of y (upright_angle x (nat_abs y))
unfolding net_angle upright_angle
net_parts x (pos y) = pick (is_zero x y) 0 (upper_angle x (pos y))
net_parts x (negsuc y) = rw (eqb-suc-zero y) refl

sign_size : (y : ℤ) (n : ℕ) → nat_abs (with_sign_of y n) ≡ n
sign_size (pos y) n = refl
sign_size (negsuc y) n = nat_abs_neg (pos n)

pub net_size : (x y : ℤ) → nat_abs (net_angle x y) ≡ upright_angle x (nat_abs y)
net_size x y = ap nat_abs (net_parts x y) ∙ sign_size y (upright_angle x (nat_abs y))
