-- How many entries a scan reads: down to the angle, which lies in the quarter that it begins. Assumes nothing.
use mathlib.Core.Path.{◌≡◌, refl, sym, ap, ap₂, ◌∙◌, subst}
use mathlib.Core.Bool.{Bool, true, false, cond, ◌&&◌, true≢false}
use Prim.Native.Nat.{ℕ, zero, suc, ◌+◌, ◌≤◌}
use native.Mathlib.Omega.{arith}
use lib.Dec.{eqb, leb, leb→le, le→leb}
use lib.IntN.{ℤ, pos, negsuc, nat_abs, pos-ne-negsuc}
use lib.Signed.{◌≤ℤ◌, le_z_yes}
use borrow.Author.Tests.{eqb-true, leb-true, leb-false}
use Rattle.aim_tables.proofs.Parts.{up}
use Rattle.aim_rule.specs.Angle.{fitting, upper_angle, net_angle, Largest}
use Rattle.aim_rule.specs.Scan.{is_zero, upright_angle, first_entry, entries_read, CountsReads, ReadsAQuarter}
use Rattle.aim_rule.proofs.Stretch.{zero_fits}
use Rattle.aim_rule.proofs.Largest.{largest_is}
use Rattle.aim_rule.proofs.Search.{angle_largest}
use Rattle.aim_rule.proofs.Quarters.{first_right, quarter, not_less, net_size}

-- ---- the target (0, 0), and every other

abs_zero : (z : ℤ) → nat_abs z ≡ 0 → z ≡ pos 0
abs_zero (pos n) e = ap pos e
abs_zero (negsuc n) e = absurd (one_more n e)
  where
    one_more : (n : ℕ) → suc n ≡ 0 → ⊥
    one_more n e = omega arith

sized : (z : ℤ) → pos (nat_abs z) ≡ pos 0 → z ≡ pos 0
sized z p = abs_zero z (ap nat_abs p)

-- some entry decides
pub not_zero : (x : ℤ) (y : ℕ) → (pos y ≡ pos 0 → x ≡ pos 0 → ⊥) → is_zero x y ≡ false
not_zero x y n = go (eqb y 0) (eqb (nat_abs x) 0) (eqb-true y 0) (eqb-true (nat_abs x) 0)
  where
    go : (a b : Bool) → (a ≡ true → y ≡ 0) → (b ≡ true → nat_abs x ≡ 0) → a && b ≡ false
    go true true p q = absurd (n (ap pos (p refl)) (abs_zero x (q refl)))
    go true false p q = refl
    go false b p q = refl

-- ---- where the angle lies

module _ (x : ℤ) (y : ℕ) where
  -- at or below the first entry
  pub upper_within : upper_angle x (pos y) ≤ first_entry x
  upper_within = subst (λ (n : ℕ). n ≤ first_entry x) (quarter x y) (largest_is (fitting x (pos y)) (zero_fits x y) (first_entry x)).within

  -- at or above each entry that fits
  pub fits_below : (m : ℕ) → m ≤ 804 → fitting x (pos y) m ≡ true → m ≤ upper_angle x (pos y)
  fits_below m h e = go (angle_largest x y) (leb m (upper_angle x (pos y))) refl
    where
      go : Largest (fitting x (pos y)) 804 (upper_angle x (pos y)) → (b : Bool) → leb m (upper_angle x (pos y)) ≡ b → m ≤ upper_angle x (pos y)
      go l true q = leb-true m (upper_angle x (pos y)) q
      go l false q = absurd (true≢false (sym e ∙ l.none_above m (leb-false m (upper_angle x (pos y)) q) h))

-- at most 402 entries below the first
pub quarter_reads : (x : ℤ) (y : ℕ) → first_entry x ≤ upper_angle x (pos y) + 402
quarter_reads (pos zero) y = let l = not_less (pos 0) y refl in omega arith
quarter_reads (negsuc x) y = let l = not_less (negsuc x) y refl in omega arith
quarter_reads (pos (suc x)) y = rw (first_right x) (omega arith)

-- ---- the count

module _ (x y : ℤ) where
  upright_within : upright_angle x (nat_abs y) ≤ first_entry x
  unfolding upright_angle
  upright_within = go (is_zero x (nat_abs y))
    where
      go : (b : Bool) → cond b 0 (upper_angle x (pos (nat_abs y))) ≤ first_entry x
      go true = omega arith
      go false = upper_within x (nat_abs y)

  counted : (y ≡ pos 0 → x ≡ pos 0 → ⊥) → entries_read x y + nat_abs (net_angle x y) ≡ first_entry x + 1
  unfolding entries_read
  counted n = rw (not_zero x (nat_abs y) (λ p. n (sized y p)), net_size x y) (let h = upright_within in omega arith)

-- the count of a target, by the side that it lies on
to_right : (x y : ℤ) → pos 1 ≤ℤ x → entries_read x y + nat_abs (net_angle x y) ≡ 403
to_right (pos zero) y h = absurd h.le
to_right (pos (suc x)) y h = counted (pos (suc x)) y (λ p q. no (ap nat_abs q)) ∙ ap (λ (n : ℕ). n + 1) (first_right x)
  where
    no : suc x ≡ 0 → ⊥
    no e = omega arith
to_right (negsuc x) y h = absurd h.le

to_left : (x y : ℤ) → x ≤ℤ pos 0 → (x ≡ pos 0 → y ≡ pos 0 → ⊥) → entries_read x y + nat_abs (net_angle x y) ≡ 805
to_left (pos zero) y h n = counted (pos 0) y (λ p q. n q p)
to_left (pos (suc x)) y h n = absurd (let l = leb→le (suc x) 0 h.le in omega arith)
to_left (negsuc x) y h n = counted (negsuc x) y (λ p q. n q p)

pub counts_reads : CountsReads
unfolding entries_read
counts_reads x y = record { none = λ p q. ap₂ entries_read p q; right = to_right x y; left = to_left x y }

-- ---- never more than a quarter is read

left_size : (x y : ℤ) → up x ≡ 0 → (y ≡ pos 0 → x ≡ pos 0 → ⊥) → 402 ≤ nat_abs (net_angle x y)
unfolding upright_angle
left_size x y e n = rw (net_size x y, not_zero x (nat_abs y) (λ p. n (sized y p))) (not_less x (nat_abs y) e)

left_most : (x y : ℤ) → up x ≡ 0 → x ≤ℤ pos 0 → (y ≡ pos 0 → x ≡ pos 0 → ⊥) → entries_read x y ≤ 403
left_most x y e h n = omega (arith, (counts_reads x y).left h (λ q p. n p q), left_size x y e n)

pub reads_a_quarter : ReadsAQuarter
reads_a_quarter (pos (suc x)) y = omega (arith, (counts_reads (pos (suc x)) y).right (le_z_yes (le→leb 1 (suc x) (omega arith))))
reads_a_quarter (negsuc x) y = left_most (negsuc x) y refl (le_z_yes tt) (λ p q. pos-ne-negsuc 0 x (sym q))
reads_a_quarter (pos zero) (pos zero) = omega (arith, (counts_reads (pos 0) (pos 0)).none refl refl)
reads_a_quarter (pos zero) (pos (suc y)) = left_most (pos 0) (pos (suc y)) refl (le_z_yes tt) (λ p q. above y (ap nat_abs p))
  where
    above : (y : ℕ) → suc y ≡ 0 → ⊥
    above y e = omega arith
reads_a_quarter (pos zero) (negsuc y) = left_most (pos 0) (negsuc y) refl (le_z_yes tt) (λ p q. pos-ne-negsuc 0 y (sym p))
