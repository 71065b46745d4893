-- The numbers that fit a target are an initial stretch: where n + 1 fits, so does n, since the table turns up from n to n + 1. Assumes nothing.
use mathlib.Core.Path.{◌≡◌, sym, subst}
use mathlib.Core.Bool.{true}
use mathlib.Core.Logic.{◌⊎◌, inl, inr}
use Prim.Native.Nat.{ℕ, zero, suc, ◌+◌, ◌*◌, ◌^◌, ◌≤◌, ◌<◌}
use native.Mathlib.Nat.{mul_comm, mul_left_comm, mul-add, mul-le-mul_left, le_of_mul-le-mul_left, eq-or-lt_of_le, le_of_suc-le-suc}
use native.Mathlib.Omega.{arith}
use denote.Floats.{passes, is_true}
use lib.Dec.{T, ltb→lt, le→leb}
use lib.IntN.{ℤ, pos, negsuc, ◌-ℤ◌, ◌*ℤ◌, *ℤ-zero}
use lib.Signed.{le_z, lt_z}
use Rattle.aim_tables.specs.Rules.{cos_at, sin_at}
use Rattle.aim_tables.proofs.Rules.{table_rules, sin_above, turn_above}
use Rattle.aim_rule.specs.Angle.{side, fitting, Stretch}
use Rattle.aim_tables.proofs.Parts.{up, down, up_left, down_left, up_right, down_right, parts_le, le_parts, above_le}

-- ---- one step, in naturals: the target (x₁ − x₀, y) from (d₁ − d₀, t) back to (c₁ − c₀, s)

module _ (y x₁ x₀ s t c₁ c₀ d₁ d₀ : ℕ) where
  back : y * d₀ + x₁ * t ≤ y * d₁ + x₀ * t → c₀ * t + s * d₁ ≤ c₁ * t + s * d₀ → 0 < t → y * c₀ + x₁ * s ≤ y * c₁ + x₀ * s
  back h k p =
      let h' : s * (y * d₀) + s * (x₁ * t) ≤ s * (y * d₁) + s * (x₀ * t) = rw (← mul-add, ← mul-add) (mul-le-mul_left s h) in
      let k' : y * (c₀ * t) + y * (s * d₁) ≤ y * (c₁ * t) + y * (s * d₀) = rw (← mul-add, ← mul-add) (mul-le-mul_left y k) in
      let e₁ : y * (s * d₁) ≡ s * (y * d₁) = mul_left_comm y s d₁ in
      let e₀ : y * (s * d₀) ≡ s * (y * d₀) = mul_left_comm y s d₀ in
      let f₁ : t * (y * c₁ + x₀ * s) ≡ y * (c₁ * t) + s * (x₀ * t) = simp (mul-add, mul_comm, mul_left_comm) in
      let f₀ : t * (y * c₀ + x₁ * s) ≡ y * (c₀ * t) + s * (x₁ * t) = simp (mul-add, mul_comm, mul_left_comm) in
      let g : t * (y * c₀ + x₁ * s) ≤ t * (y * c₁ + x₀ * s) = omega arith in
      le_of_mul-le-mul_left g p

-- ---- one step, in whole numbers

one_back : (x : ℤ) (y : ℕ) (c s d t : ℤ) → T (le_z (pos 0) s) → T (lt_z (pos 0) t) → T (le_z (pos 0) (c *ℤ t -ℤ s *ℤ d)) → T (le_z (pos 0) (pos y *ℤ d -ℤ x *ℤ t)) → T (le_z (pos 0) (pos y *ℤ c -ℤ x *ℤ s))
one_back x y c (negsuc s) d t p q k h = absurd p
one_back x y c (pos s) d (negsuc t) p q k h = absurd q
one_back x y c (pos s) d (pos t) p q k h =
    let h' : y * down d + up x * t ≤ y * up d + down x * t = rw (← down_left, ← up_right, ← up_left, ← down_right) (parts_le (pos y *ℤ d) (x *ℤ pos t) h) in
    let k' : down c * t + s * up d ≤ up c * t + s * down d = rw (← down_right, ← up_left, ← up_right, ← down_left) (parts_le (c *ℤ pos t) (pos s *ℤ d) k) in
    let g : y * down c + up x * s ≤ y * up c + down x * s = back y (up x) (down x) s t (up c) (down c) (up d) (down d) h' k' (ltb→lt 0 t q) in
    le_parts (pos y *ℤ c) (x *ℤ pos s) (rw (down_left, up_right, up_left, down_right) g)

-- ---- over the table

sin_up : (n : ℕ) → n < 805 → T (le_z (pos 0) (sin_at n))
sin_up zero h = subst (λ (z : ℤ). T (le_z (pos 0) z)) (sym table_rules.sin0) tt
sin_up (suc n) h = above_le (sin_at (suc n)) (sin_above n (omega arith))

module _ (x : ℤ) (y : ℕ) where
  one_less : (n : ℕ) → n < 804 → T (fitting x (pos y) (suc n)) → T (fitting x (pos y) n)
  unfolding side
  one_less n h = one_back x y (cos_at n) (sin_at n) (cos_at (suc n)) (sin_at (suc n)) (sin_up n (omega arith)) (sin_above n h) (above_le (cos_at n *ℤ sin_at (suc n) -ℤ sin_at n *ℤ cos_at (suc n)) (turn_above n h))

  down_to : (m n : ℕ) → m ≤ n → n ≤ 804 → T (fitting x (pos y) n) → T (fitting x (pos y) m)
  down_to m zero h k t = subst (λ (i : ℕ). T (fitting x (pos y) i)) (none m h) t
    where
      none : (m : ℕ) → m ≤ 0 → 0 ≡ m
      none m h = omega arith
  down_to m (suc n) h k t = go (eq-or-lt_of_le h) (λ l. down_to m n l (omega arith) (one_less n (omega arith) t))
    where
      go : (m ≡ suc n) ⊎ (m < suc n) → (m ≤ n → T (fitting x (pos y) m)) → T (fitting x (pos y) m)
      go (inl e) f = subst (λ (i : ℕ). T (fitting x (pos y) i)) (sym e) t
      go (inr l) f = f (le_of_suc-le-suc l)

  pub fitting_stretch : Stretch (fitting x (pos y)) 804
  fitting_stretch = record { below = λ m n h k e. is_true (fitting x (pos y) m) (down_to m n h k (passes (fitting x (pos y) n) e)) }

  -- 0 fits every target: C[0] is 2 ^ 30 and S[0] is 0
  pub zero_fits : fitting x (pos y) 0 ≡ true
  unfolding side
  zero_fits = rw (table_rules.cos0, table_rules.sin0, *ℤ-zero) (is_true (le_z (pos 0) (pos (y * 2 ^ 30 + 0))) (le→leb 0 (y * 2 ^ 30 + 0) (omega arith)))
