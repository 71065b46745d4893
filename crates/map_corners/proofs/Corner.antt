-- Which edges of tiles a coordinate is past with 14 added or subtracted is told by the rounded coordinate. Assumes nothing.
use mathlib.Core.Path.{◌≡◌, refl, sym, ap, ap₂, subst}
use mathlib.Core.Logic.Iff
use mathlib.Core.Logic.{◌↔◌}
use mathlib.Core.Bool.{Bool, true, false, not, ◌&&◌, cond}
use Prim.Native.Nat.{ℕ, suc, ◌+◌, ◌-◌, ◌*◌, ◌^◌, ◌≤◌, ◌<◌, zero-le}
use native.Mathlib.Nat.{mul-one, mul-le-mul_right, pow-suc}
use native.Mathlib.Omega.{arith}
use lib.Dec.{T, ltb, ltb→lt, nltb→le, lit<, lit≤}
use lib.IntN.{ℤ, pos}
use lib.Ieee.{Float, nan, inf, fin, binary32, up, down, round, sum, add, fits}
use lib.Ieee.Fits.{down_pos}
use Rattle.num_convert.specs.Whole.{whole_of, round_to_i32}
use Rattle.base_binary32.proofs.Sign.{round_sign}
use Rattle.map_corners.proofs.Reach.{Past, value_past, negative_past, round_past}
use Rattle.map_corners.proofs.Gap.{grain, gap}
use Rattle.map_corners.proofs.Crossing.{exact_past, crossing}

-- 14.0, or -14.0 where t is true
abbrev pub fourteen : Bool → Float
fourteen t = fin t 7 (pos 1)

-- 32 * k + 31, the last whole number before the tile k + 1, with that taken back
abbrev pub back : Bool → ℕ → ℕ
back false k = 32 * k + 17
back true k = 32 * k + 45

neither : {A B : Type 0} → (A → ⊥) → (B → ⊥) → A ↔ B
neither f g = (λ a. absurd (f a), λ b. absurd (g b))

times : (x y a n c u d : ℕ) → x * c + a * 2 ≡ y * c + n * 2 → d ≡ u * 2 → x * u * c + a * d ≡ y * u * c + n * d
times x y a n c u d q e = omega (arith, ap (λ (k : ℕ). a * k) e, ap (λ (k : ℕ). n * k) e, ap (λ (k : ℕ). k * u) q)

module _ (k : ℕ) (K : k < 1023) where
  -- what has a sign or is at most 14
  low_past : (s : Bool) (n c : ℕ) → 0 < c → (T (not s) → n ≤ 14 * c) → Past (32 * k + 31) (round_to_i32 (round binary32 s n c)) → ⊥
  low_past true n c C h r = negative_past (round binary32 true n c) (32 * k + 31) (round_sign binary32 true n c) r
  low_past false n c C h r =
      let l : n * 1 ≤ 14 * c = omega (arith, h tt) in
      let p = (exact_past 14 0 (32 * k + 31) (lit< tt) zero-le (omega arith)).0 (round_past n c 14 1 (32 * k + 31) C (lit< tt) l r) in
      absurd (omega arith)

  -- n / c is a value moved by as much as 32 * k + 31 is from j
  moved : (m : ℕ) (e : ℤ) (n j : ℕ) → T (fits binary32 (fin false m e)) → 32 * k + 17 ≤ j → j < 2 ^ 16 → (64 * k + 63) * down e + m * up e * 2 ≡ (j * 2 + 1) * down e + n * 2
      → Past (32 * k + 31) (round_to_i32 (round binary32 false n (down e))) ↔ Past j (round_to_i32 (fin false m e))
  moved m e n j f l h q =
      let g = grain 10 k (lit≤ tt) (omega arith) in
      let a = m * up e in
      let c = down e in
      let u = 2 ^ g.v in
      let d = 2 ^ suc g.v in
      let z : (64 * k + 63) * u * c + a * d ≡ (j * 2 + 1) * u * c + n * d = times (64 * k + 63) (j * 2 + 1) a n c u d q (pow-suc 2 g.v) in
      let y : 2 ^ 23 < (j * 2 + 1) * u = omega (arith, g.under, mul-le-mul_right u l) in
      let step : n * d < ((32 * k + 31) * 2 + 1) * u * c → n * d + c ≤ ((32 * k + 31) * 2 + 1) * u * c = λ p. omega (arith, gap false m e (suc g.v) ((j * 2 + 1) * u) f y (omega arith)) in
      Iff.trans (crossing (32 * k + 31) g.v n c (down_pos e) (omega arith) g.fine (omega (arith, g.over)) step)
      (Iff.trans (λ p. omega arith, λ p. omega arith) (Iff.symm (value_past (fin false m e) a c j (down_pos e) h (refl, refl))))

  -- ---- by the signs of the 14 and of the coordinate
  sum_past : (t s : Bool) (m : ℕ) (e : ℤ) → T (fits binary32 (fin s m e)) → Past (32 * k + 31) (round_to_i32 (sum binary32 s (m * up e) t (14 * down e) (down e))) ↔ Past (back t k) (round_to_i32 (fin s m e))
  unfolding sum
  sum_past false false m e f = moved m e (m * up e + 14 * down e) (32 * k + 17) f (omega arith) (omega arith) (omega arith)
  sum_past true true m e f = neither (low_past true (m * up e + 14 * down e) (down e) (down_pos e) (λ b. absurd b)) (negative_past (fin true m e) (32 * k + 45) refl)
  sum_past false true m e f = neither (go (ltb (m * up e) (14 * down e))) (negative_past (fin true m e) (32 * k + 17) refl)
    where
      go : (b : Bool) → Past (32 * k + 31) (round_to_i32 (cond b (round binary32 false (14 * down e - m * up e) (down e)) (round binary32 (true && ltb (14 * down e) (m * up e)) (m * up e - 14 * down e) (down e)))) → ⊥
      go true = low_past false (14 * down e - m * up e) (down e) (down_pos e) (λ b. omega arith)
      go false = low_past (ltb (14 * down e) (m * up e)) (m * up e - 14 * down e) (down e) (down_pos e) (λ b. omega (arith, nltb→le (14 * down e) (m * up e) b))
  sum_past true false m e f = go (ltb (m * up e) (14 * down e)) (ltb→lt (m * up e) (14 * down e)) (nltb→le (m * up e) (14 * down e))
    where
      go : (b : Bool) → (T b → m * up e < 14 * down e) → (T (not b) → 14 * down e ≤ m * up e)
          → Past (32 * k + 31) (round_to_i32 (cond b (round binary32 true (14 * down e - m * up e) (down e)) (round binary32 false (m * up e - 14 * down e) (down e)))) ↔ Past (32 * k + 45) (round_to_i32 (fin false m e))
      go true l h =
          neither (low_past true (14 * down e - m * up e) (down e) (down_pos e) (λ b. absurd b))
          (λ r. absurd (omega (arith, l tt, (value_past (fin false m e) (m * up e) (down e) (32 * k + 45) (down_pos e) (omega arith) (refl, refl)).0 r)))
      go false l h = moved m e (m * up e - 14 * down e) (32 * k + 45) f (omega arith) (omega arith) (omega (arith, h tt))

  add-sum : (t s : Bool) (m : ℕ) (e : ℤ) → add binary32 (fin s m e) (fourteen t) ≡ sum binary32 s (m * up e) t (14 * down e) (down e)
  unfolding add
  add-sum t s m e = ap₂ (λ (a c : ℕ). sum binary32 s a t (14 * down e) c) (mul-one (m * up e)) (mul-one (down e))

  pub add_past : (t : Bool) (x : Float) → T (fits binary32 x) → Past (32 * k + 31) (round_to_i32 (add binary32 x (fourteen t))) ↔ Past (back t k) (round_to_i32 x)
  unfolding add whole_of
  add_past t nan f = neither (λ r. absurd (omega arith)) (λ r. absurd (omega arith))
  add_past t (inf true) f = neither (λ r. r) (λ r. r)
  add_past false (inf false) f = (λ r. omega arith, λ r. omega arith)
  add_past true (inf false) f = (λ r. omega arith, λ r. omega arith)
  add_past t (fin s m e) f = subst (λ (y : Float). Past (32 * k + 31) (round_to_i32 y) ↔ Past (back t k) (round_to_i32 (fin s m e))) (sym (add-sum t s m e)) (sum_past t s m e f)
