-- The whole part of a root: `isqrt` is one, and the roots of n and of n * (T * T) go together. Assumes nothing.
use mathlib.Core.Path.{◌≡◌, refl, sym, ap, ◌∙◌, subst}
use mathlib.Core.Bool.{Bool, true, false, not, cond}
use Prim.Native.Nat.{ℕ, zero, suc, ◌+◌, ◌*◌, ◌/◌, ◌%◌, ◌^◌, ◌≤◌, ◌<◌, zero-le}
use native.Mathlib.Nat.{le_trans, le_of_eq, lt_of_lt_of_le, lt_of_le_of_lt, lt_of_not-le, not-le_of_lt, le_of_suc-le-suc, le_antisymm, mul-le-mul_right, mul-lt-mul_of_pos_right, mul-pos, mul_assoc, mul_comm, mul_left_comm, mul-mul-mul_comm, pow-suc, div-add-mod', mul-add, add-mul, add_assoc, add_comm, add_left_comm}
use native.Mathlib.Omega.{arith}
use lib.Dec.{T, leb, ltb, leb→le, nleb→lt, nltb→le}
use lib.Ieee.{size}
use lib.Ieee.Digits.{size-lt}
use Rattle.num_root.specs.Root.{bump, isqrt_in, isqrt, short}
use Rattle.num_root.proofs.Squares.{root_lt}

-- s is the whole part of the root of n
abbrev pub Floor : ℕ → ℕ → Type 0
Floor n s = (s * s ≤ n) × (n < suc s * suc s)

bump_floor : (n r : ℕ) → r * r ≤ n → n < suc (suc r) * suc (suc r) → Floor n (bump n r)
bump_floor n r h k = go (leb (suc r * suc r) n) (leb→le (suc r * suc r) n) (nleb→lt (suc r * suc r) n)
  where
    go : (b : Bool) → (T b → suc r * suc r ≤ n) → (T (not b) → n < suc r * suc r) → Floor n (cond b (suc r) r)
    go true p q = (p tt, k)
    go false p q = (h, q tt)

twice_sq : (s : ℕ) → s * 2 * (s * 2) ≡ s * s * 4
twice_sq s = mul-mul-mul_comm s 2 s 2

next_twice : (s : ℕ) → suc (suc (s * 2)) ≡ suc s * 2
next_twice s = omega arith

quarter_le : (n a : ℕ) → a ≤ n / 4 → a * 4 ≤ n
quarter_le n a h = omega arith

quarter_lt : (n a : ℕ) → n / 4 < a → n < a * 4
quarter_lt n a h = omega arith

double_step : (n s : ℕ) → Floor (n / 4) s → Floor n (bump n (s * 2))
double_step n s h =
    bump_floor n (s * 2) (le_trans (le_of_eq (twice_sq s)) (quarter_le n (s * s) h.0))
    (lt_of_lt_of_le (quarter_lt n (suc s * suc s) h.1) (le_of_eq (sym (ap (λ (x : ℕ). x * x) (next_twice s) ∙ twice_sq (suc s)))))

fuel : (n p : ℕ) → n < p * 2 → n / 4 < p
fuel n p h = omega arith

none : (n : ℕ) → n < 1 → Floor n 0
none n h = (zero-le, h)

isqrt_in_floor : (k n : ℕ) → n < 2 ^ k → Floor n (isqrt_in k n)
unfolding isqrt_in
isqrt_in_floor zero n h = none n h
isqrt_in_floor (suc k) n h = double_step n (isqrt_in k (n / 4)) (isqrt_in_floor k (n / 4) (fuel n (2 ^ k) (subst (λ (p : ℕ). n < p) (pow-suc 2 k) h)))

pub isqrt_floor : (n : ℕ) → Floor n (isqrt n)
unfolding isqrt
isqrt_floor n = isqrt_in_floor (size n) n (size-lt n)

-- ---- n * (T * T) and its root, by n and its root
sq_product : (a t : ℕ) → a * t * (a * t) ≡ a * a * (t * t)
sq_product a t = mul-mul-mul_comm a t a t

odd_sq : (h : ℕ) → (h * 2 + 1) * (h * 2 + 1) ≡ (h * h * 2 + h * 2) * 2 + 1
odd_sq h =
    let e : (h * 2 + 1) * (h * 2 + 1) ≡ h * 2 * (h * 2) + h * 2 + (h * 2 + 1) = simp (mul-add, add-mul, mul_assoc, mul_comm, mul_left_comm, add_assoc, add_comm, add_left_comm) (omega arith) in
    let f : h * 2 * (h * 2) ≡ h * h * 4 = twice_sq h in
    omega arith

-- a number whose square is even is even
pub even_root : (s : ℕ) → s * s % 2 ≡ 0 → s % 2 ≡ 0
even_root s h = go (s / 2) (s % 2) (div-add-mod' s 2) (omega arith)
  where
    go : (a b : ℕ) → a * 2 + b ≡ s → b < 2 → b ≡ 0
    go a zero e l = refl
    go a (suc zero) e l =
        let q : s * s ≡ (a * a * 2 + a * 2) * 2 + 1 = ap (λ (x : ℕ). x * x) (sym e) ∙ odd_sq a in
        absurd (omega (arith, q, h))
    go a (suc (suc b)) e l = absurd (omega (arith, l))

pub record Scaled (s t S v : ℕ) : Type 0 where
  pub below : s * t * 2 ≤ S * 2 + short S v
  pub above : S * 2 + short S v < suc s * t * 2
  pub even : s * t * 2 ≡ S * 2 + short S v → s % 2 ≡ 0

module _ (n t s S : ℕ) (t-pos : 0 < t) (n-even : n % 2 ≡ 0) (fs : Floor n s) (fS : Floor (n * (t * t)) S) where
  v : ℕ
  v = n * (t * t)

  lower : s * t ≤ S
  lower = le_of_suc-le-suc (root_lt (s * t) (suc S) (lt_of_le_of_lt (le_trans (le_of_eq (sq_product s t)) (mul-le-mul_right (t * t) fs.0)) fS.1))

  upper : S < suc s * t
  upper = root_lt S (suc s * t) (lt_of_le_of_lt fS.0 (lt_of_lt_of_le (mul-lt-mul_of_pos_right fs.1 (mul-pos t-pos t-pos)) (le_of_eq (sym (sq_product (suc s) t)))))

  -- where s is no root, s * t is none
  strict : s * s < n → s * t * (s * t) < n * (t * t)
  strict h = lt_of_le_of_lt (le_of_eq (sq_product s t)) (mul-lt-mul_of_pos_right h (mul-pos t-pos t-pos))

  -- s is even where it is a root
  at-root : n ≤ s * s → s % 2 ≡ 0
  at-root h = even_root s (ap (λ (x : ℕ). x % 2) (le_antisymm fs.0 h) ∙ n-even)

  not_less : (s * s < n → ⊥) → n ≤ s * s
  not_less f = le_of_suc-le-suc (lt_of_not-le (λ (g : suc (s * s) ≤ n). f g))

  pub scaled : Scaled s t S (n * (t * t))
  scaled =
      let p = pack (ltb (S * S) (n * (t * t))) (nltb→le (S * S) (n * (t * t))) in
      record { below = p.0; above = p.1; even = p.2 }
    where
      pack : (b : Bool) → (T (not b) → n * (t * t) ≤ S * S)
          → (s * t * 2 ≤ S * 2 + cond b 1 0) × (S * 2 + cond b 1 0 < suc s * t * 2) × (s * t * 2 ≡ S * 2 + cond b 1 0 → s % 2 ≡ 0)
      pack true q = (omega (arith, lower), omega (arith, upper), λ e. absurd (omega (arith, e)))
      pack false q = (
        omega (arith, lower),
        omega (arith, upper),
        λ e. at-root (not_less (λ (h : s * s < n). not-le_of_lt (root_lt (s * t) S (lt_of_lt_of_le (strict h) (q tt))) (omega (arith, e)))),
      )
