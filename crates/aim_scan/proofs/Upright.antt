-- The angle of a target with y ≥ 0, from what finds it: an entry, an axis or a scan. Assumes nothing.
use mathlib.Core.Path.{◌≡◌, refl, sym, ap, ap₂, ◌∙◌}
use mathlib.Core.Bool.{Bool, true, false, cond}
use Prim.Native.Nat.{ℕ, zero, suc, ◌+◌, ◌-◌, ◌≤◌}
use lib.Dec.{lit≤, eqb-suc-zero}
use lib.IntN.{ℤ, pos, negsuc, nat_abs}
use lib.Signed.{lt_z}
use mir.Syntax.{w32}
use mir.Val.{SFits}
use Rattle.aim_rule.specs.Angle.{fitting, largest, upper_angle}
use Rattle.aim_rule.specs.Scan.{is_zero, upright_angle, first_entry}
use Rattle.aim_rule.specs.Search.{Target}
use Rattle.aim_rule.proofs.Quarters.{quarter, axis_up}
use Rattle.aim_rule.proofs.Entries.{not_zero}
use Rattle.aim_scan.specs.Scan.{upright_scan}
use Rattle.aim_scan.specs.declared.scan.Found.{Found}
use Rattle.aim_scan.proofs.Below.{small}

-- a target of two i32, of which the height is taken
pub target : (x y : ℤ) → SFits w32 x → SFits w32 y → Target x (pos (nat_abs y))
target x y f g = record { x_small = small x f; y_small = small y g; up = tt }

pub first_within : (x : ℤ) → first_entry x ≤ 804
first_within x = go (lt_z (pos 0) x)
  where
    go : (b : Bool) → cond b 402 804 ≤ 804
    go true = lit≤ tt
    go false = lit≤ tt

module _ (x : ℤ) (y : ℕ) where
  upright : (pos y ≡ pos 0 → x ≡ pos 0 → ⊥) → upper_angle x (pos y) ≡ upright_angle x y
  unfolding upright_angle
  upright n = rw (not_zero x y n) refl

  found : (pos y ≡ pos 0 → x ≡ pos 0 → ⊥) → (f : Found) (from : ℕ) → from ≡ first_entry x → f.n ≡ largest (fitting x (pos y)) from → f.read ≡ from + 1 - f.n → f ≡ upright_scan x y
  found n f from e p q =
      let a : f.n ≡ upright_angle x y = p ∙ ap (largest (fitting x (pos y))) e ∙ quarter x y ∙ upright n in
      let b : f.read ≡ cond (is_zero x y) 0 (first_entry x + 1 - upright_angle x y) = q ∙ ap₂ (λ (k m : ℕ). k + 1 - m) e a ∙ ap (λ (z : Bool). cond z 0 (first_entry x + 1 - upright_angle x y)) (sym (not_zero x y n)) in
      ap₂ (λ (k m : ℕ). record { n = k; read = m }) a b

-- ---- as they are used
pub angle_is : (x y : ℤ) → Target x y → (y ≡ pos 0 → x ≡ pos 0 → ⊥) → upper_angle x y ≡ upright_angle x (nat_abs y)
angle_is x (pos y) t n = upright x y n
angle_is x (negsuc y) t n = absurd t.up

pub scan_is : (x y : ℤ) → Target x y → (y ≡ pos 0 → x ≡ pos 0 → ⊥) → (f : Found) (from : ℕ) → from ≡ first_entry x → f.n ≡ largest (fitting x y) from → f.read ≡ from + 1 - f.n → f ≡ upright_scan x (nat_abs y)
scan_is x (pos y) t n f from e p q = found x y n f from e p q
scan_is x (negsuc y) t n f from e p q = absurd t.up

pub zero_scan : (x y : ℤ) → x ≡ pos 0 → y ≡ pos 0 → record { n = 0; read = 0 } ≡ upright_scan x (nat_abs y)
unfolding upright_angle
zero_scan x y p q = ap₂ (λ (a b : ℤ). upright_scan a (nat_abs b)) (sym p) (sym q)

pub up_is : (x y : ℤ) → Target x y → x ≡ pos 0 → (y ≡ pos 0 → ⊥) → 402 ≡ upright_angle x (nat_abs y)
unfolding upright_angle
up_is x (pos zero) t p n = absurd (n refl)
up_is x (pos (suc y)) t p n = rw (p, eqb-suc-zero y) (sym (axis_up y))
up_is x (negsuc y) t p n = absurd t.up
