-- Which entries of the tables a scan reads for a target, and how many. Definitions only.
use Rattle.std.specs.Prelude.{ℕ, ◌+◌, ◌-◌, ◌≤◌, Bool, cond, ◌&&◌, ◌≡◌, eqb, ℤ, pos, negsuc, neg_ℤ, nat_abs, ◌≤ℤ◌}
use Rattle.std.specs.Int.Signed.{lt_z}
use Rattle.aim_rule.specs.Angle.{upper_angle, net_angle}

-- the target (0, 0), whose angle no entry decides
abbrev pub is_zero : ℤ → ℕ → Bool
is_zero x y = eqb y 0 && eqb (nat_abs x) 0

-- the angle of a target that lies y up, that of (0, 0) included
unfoldable pub upright_angle : ℤ → ℕ → ℕ
upright_angle x y = cond (is_zero x y) 0 (upper_angle x (pos y))

-- n, with the sign of y
abbrev pub with_sign_of : ℤ → ℕ → ℤ
with_sign_of (pos y) n = pos n
with_sign_of (negsuc y) n = neg_ℤ (pos n)

-- the entry that is read first: 402 where x is above 0, and else 804
abbrev pub first_entry : ℤ → ℕ
first_entry x = cond (lt_z (pos 0) x) 402 804

-- how many entries are read: none for (0, 0), else 403 or 805 less the size of the angle
unfoldable pub entries_read : ℤ → ℤ → ℕ
entries_read x y = cond (is_zero x (nat_abs y)) 0 (first_entry x + 1 - nat_abs (net_angle x y))

-- never more than a quarter
abbrev pub ReadsAQuarter : Type 0
ReadsAQuarter = (x y : ℤ) → entries_read x y ≤ 403

-- the entries read for a target: none for (0, 0), else 403 less the size of the angle when x is above 0, and 805 less it when x is not
pub record ReadsToAngle (x y : ℤ) : Type 0 where
  pub none : x ≡ pos 0 → y ≡ pos 0 → entries_read x y ≡ 0
  pub right : pos 1 ≤ℤ x → entries_read x y + nat_abs (net_angle x y) ≡ 403
  pub left : x ≤ℤ pos 0 → (x ≡ pos 0 → y ≡ pos 0 → ⊥) → entries_read x y + nat_abs (net_angle x y) ≡ 805

-- every target is read so
abbrev pub CountsReads : Type 0
CountsReads = (x y : ℤ) → ReadsToAngle x y
