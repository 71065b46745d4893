-- The angle stand-in of document 01. Definitions only.
use Rattle.std.specs.Prelude.{Bool, true, false, ◌&&◌, cond, ◌≡◌, ℕ, zero, suc, ◌≤◌, ◌<◌, eqb, ℤ, pos, negsuc, neg_ℤ, nat_abs, ◌-ℤ◌, ◌*ℤ◌}
use Rattle.std.specs.Int.Signed.{le_z}
use Rattle.aim_tables.specs.Rules.{cos_at, sin_at}

-- y × C[n] − x × S[n]
unfoldable pub side : ℤ → ℤ → ℕ → ℤ
side x y n = y *ℤ cos_at n -ℤ x *ℤ sin_at n

-- n fits the target: y × C[n] − x × S[n] ≥ 0
abbrev pub fitting : ℤ → ℤ → ℕ → Bool
fitting x y n = le_z (pos 0) (side x y n)

-- the largest n up to top that passes the test p, and 0 where none does
unfoldable pub largest : (ℕ → Bool) → ℕ → ℕ
largest p zero = zero
largest p (suc n) = cond (p (suc n)) (suc n) (largest p n)

-- for y ≥ 0: the largest n with y × C[n] − x × S[n] ≥ 0
unfoldable pub upper_angle : ℤ → ℤ → ℕ
upper_angle x y = largest (fitting x y) 804

-- the net angle: 0 for (0, 0), and for y < 0 minus that of (x, −y)
unfoldable pub net_angle : ℤ → ℤ → ℤ
net_angle x (pos y) = cond (eqb y 0 && eqb (nat_abs x) 0) (pos 0) (pos (upper_angle x (pos y)))
net_angle x (negsuc y) = neg_ℤ (pos (upper_angle x (pos (suc y))))

-- ---- what is said of them

-- n is the largest number up to top that passes p, whatever finds it
pub record Largest (p : ℕ → Bool) (top n : ℕ) : Type 0 where
  pub within : n ≤ top
  pub passes : p n ≡ true
  pub none_above : (m : ℕ) → n < m → m ≤ top → p m ≡ false

-- what passes p up to top is an initial stretch
pub record Stretch (p : ℕ → Bool) (top : ℕ) : Type 0 where
  pub below : (m n : ℕ) → m ≤ n → n ≤ top → p n ≡ true → p m ≡ true
