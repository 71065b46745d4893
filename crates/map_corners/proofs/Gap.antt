-- Floats lie on a grid: from 2 ^ 23 of the 2 ^ t-ths on, they are whole numbers of them. Assumes nothing.
use mathlib.Core.Path.{◌≡◌, sym, ap, ◌∙◌}
use mathlib.Core.Bool.{Bool}
use Prim.Native.Nat.{ℕ, zero, suc, ◌+◌, ◌-◌, ◌*◌, ◌^◌, ◌≤◌, ◌<◌}
use native.Mathlib.Nat.{le_trans, le_of_eq, le_of_lt, lt_of_lt_of_le, lt_of_le_of_lt, lt_of_not-le, mul_assoc, mul_right_comm, mul-le-mul_right, le_of_mul-le-mul_right, lt_of_mul-lt-mul_right, eq_of_mul-eq-mul_right, pow-suc}
use native.Mathlib.Omega.{arith}
use native.Mathlib.Decide.{dec_le}
use lib.Dec.{T, lit≤}
use lib.IntN.{ℤ}
use lib.Pow.{pow-add, pow_mono, pow_pos, shl_lt}
use lib.Ieee.{fin, binary32, up, down, fits}
use Rattle.base_binary32.proofs.Grid.{on_grid}

-- ---- a value below g of them is at most g - 1 of them, for a g above 2 ^ 23
whole_step : (n a c g : ℕ) → a ≡ n * c → a < g * c → a + c ≤ g * c
whole_step n a c g e l = omega (arith, mul-le-mul_right c (lt_of_mul-lt-mul_right c (lt_of_le_of_lt (le_of_eq (sym e)) l)))

far_below : (a c g : ℕ) → a ≤ 2 ^ 23 * c → 2 ^ 23 < g → a + c ≤ g * c
far_below a c g h G = omega (arith, mul-le-mul_right c G)

shift : (q i j : ℕ) → q * 2 ^ i * 2 ^ j ≡ q * 2 ^ (i + j)
shift q i j = mul_assoc q (2 ^ i) (2 ^ j) ∙ ap (λ (x : ℕ). q * x) (sym (pow-add 2 i j))

step : (a c q i t g : ℕ) → q < 2 ^ 24 → a * 2 ^ 149 ≡ q * 2 ^ i * c → 2 ^ 23 < g → a * 2 ^ t < g * c → a * 2 ^ t + c ≤ g * c
step a c q i t g Q v G l = go (dec_le 149 (i + t))
  where
    units : a * 2 ^ t * 2 ^ 149 ≡ q * 2 ^ (i + t) * c
    units = mul_right_comm a (2 ^ t) (2 ^ 149) ∙ ap (λ (x : ℕ). x * 2 ^ t) v ∙ mul_right_comm (q * 2 ^ i) c (2 ^ t) ∙ ap (λ (x : ℕ). x * c) (shift q i t)

    go : Dec (149 ≤ i + t) → a * 2 ^ t + c ≤ g * c
    go (yes p) =
        let d = i + t - 149 in
        let w : i + t ≡ d + 149 = omega arith in
        whole_step (q * 2 ^ d) (a * 2 ^ t) c g
        (eq_of_mul-eq-mul_right (2 ^ 149) (pow_pos 149) (a * 2 ^ t) (q * 2 ^ d * c) (units ∙ ap (λ (x : ℕ). x * c) (ap (λ (x : ℕ). q * 2 ^ x) w ∙ sym (shift q d 149)) ∙ mul_right_comm (q * 2 ^ d) (2 ^ 149) c)) l
    go (no p) =
        let k : 24 + (i + t) ≤ 172 = omega (arith, lt_of_not-le p) in
        let r : q * 2 ^ (i + t) < 2 ^ 23 * 2 ^ 149 = lt_of_lt_of_le (shl_lt 24 (i + t) Q) (pow_mono k) in
        far_below (a * 2 ^ t) c g (le_of_mul-le-mul_right (le_trans (le_of_eq units) (le_trans (mul-le-mul_right c (le_of_lt r)) (le_of_eq (mul_right_comm (2 ^ 23) (2 ^ 149) c)))) (pow_pos 149)) G

pub gap : (s : Bool) (m : ℕ) (e : ℤ) (t g : ℕ) → T (fits binary32 (fin s m e)) → 2 ^ 23 < g → m * up e * 2 ^ t < g * down e → m * up e * 2 ^ t + down e ≤ g * down e
gap s m e t g f = let y = on_grid s m e f in step (m * up e) (down e) y.q y.i t g y.small y.value.1

-- ---- 32 * k + 31 1/2 in 2 ^ suc v-ths: below 2 ^ 24 of them, and above 2 ^ 23 even with 14 less
pub record Grain (k : ℕ) : Type 0 where
  pub v : ℕ
  pub fine : v ≤ 18
  pub over : (64 * k + 63) * 2 ^ v < 2 ^ 24
  pub under : 2 ^ 23 < (64 * k + 35) * 2 ^ v

grain_at : (j k : ℕ) → j < 10 → 2 ^ j ≤ k → k < 2 ^ suc j → Grain k
grain_at j k b l h =
    let u = 2 ^ (17 - j) in
    let w : j + (17 - j) ≡ 17 = omega arith in
    let e : 2 ^ 17 ≡ 2 ^ j * u = ap (λ (x : ℕ). 2 ^ x) (sym w) ∙ pow-add 2 j (17 - j) in
    let p : 0 < u = pow_pos (17 - j) in
    record { v = 17 - j; fine = omega arith; over = omega (arith, mul-le-mul_right u h, ap (λ (x : ℕ). x * u) (pow-suc 2 j)); under = omega (arith, mul-le-mul_right u l) }

pub grain : (j k : ℕ) → j ≤ 10 → k < 2 ^ j → Grain k
grain zero k b h = record { v = 18; fine = lit≤ tt; over = omega arith; under = omega arith }
grain (suc j) k b h = elim (dec_le (2 ^ j) k) [ yes p ↦ grain_at j k b p h | no p ↦ grain j k (le_of_lt b) (lt_of_not-le p) ]
