-- A product with a factor from 0 to 1 lies between zero and the other factor, and a square is not below zero. Assumes nothing.
use mathlib.Core.Path.{◌≡◌, refl, ap, subst, sym}
use mathlib.Core.Bool.{Bool, true, false, cond}
use Prim.Native.Nat.{ℕ, ◌+◌, ◌*◌, ◌≤◌}
use native.Mathlib.Nat.{mul-pos, mul-le-mul_right}
use native.Mathlib.Omega.{arith}
use lib.Dec.{T, eqb, lit<}
use lib.IntN.{pos}
use lib.Ieee.{Float, nan, inf, fin, Format, binary32, binary64, unlike, up, down, mul, le, fits, is_nan}
use lib.Ieee.Fits.{up_pos, down_pos, eq→eqb}
use lib.Ieee.Scale.{finite}
use lib.Ieee.Positive.{den, den_pos}
use Rattle.num_order.proofs.Signed.{first_zero, gain, le→at-most, loss, over, under}
use Rattle.num_order.proofs.Chain.{Number, nought}
use Rattle.num_order.proofs.Places.{Placed, own_placed, placed_ordered, round_placed}

pub mul_placed : (f : Format) (x y : Float) → T (finite x) → T (finite y) → Placed f (mul f x y) (over x * over y + under x * under y) (over x * under y + under x * over y) (den x * den y)
unfolding mul
mul_placed f nan y p q = absurd p
mul_placed f (inf s) y p q = absurd p
mul_placed f (fin s m e) nan p q = absurd q
mul_placed f (fin s m e) (inf t) p q = absurd q
mul_placed f (fin true m e) (fin true n d) p q = round_placed f false (m * up e * (n * up d)) _ _ (down e * down d) (omega arith)
mul_placed f (fin true m e) (fin false n d) p q = round_placed f true (m * up e * (n * up d)) _ _ (down e * down d) (omega arith)
mul_placed f (fin false m e) (fin true n d) p q = round_placed f true (m * up e * (n * up d)) _ _ (down e * down d) (omega arith)
mul_placed f (fin false m e) (fin false n d) p q = round_placed f false (m * up e * (n * up d)) _ _ (down e * down d) (omega arith)

-- 1
abbrev pub one : Float
one = fin false 1 (pos 0)

-- what is not below zero has nothing below, and what is not above nothing above
pub none_under : (x : Float) → T (finite x) → T (le nought x) → under x ≡ 0
none_under nan p h = absurd p
none_under (inf s) p h = absurd p
none_under (fin true m e) p h = omega (arith, le→at-most nought (fin true m e) tt tt h)
none_under (fin false m e) p h = refl

pub none_over : (x : Float) → T (finite x) → T (le x nought) → over x ≡ 0
none_over nan p h = absurd p
none_over (inf s) p h = absurd p
none_over (fin true m e) p h = refl
none_over (fin false m e) p h = omega (arith, le→at-most (fin false m e) nought tt tt h)

-- a factor from 0 to 1
pub record Factor (k : Float) : Type 0 where
  pub from : T (le nought k)
  pub to : T (le k one)

pub factor_finite : (k : Float) → Factor k → T (finite k)
unfolding le
factor_finite nan h = absurd h.from
factor_finite (inf true) h = absurd h.from
factor_finite (inf false) h = absurd h.to
factor_finite (fin s m e) h = tt

factor_over : (k : Float) → Factor k → over k ≤ den k
factor_over k h = omega (arith, le→at-most k one (factor_finite k h) tt h.to, none_under k (factor_finite k h) h.from)

pub nought_fits : (f : Format) → T (fits f nought)
unfolding fits
nought_fits f = tt

pub one_fits : (f : Format) → T (fits f one)
unfolding fits
one_fits binary32 = tt
one_fits binary64 = tt

-- an infinity stays
inf_times : (f : Format) (s : Bool) (k : Float) → Factor k → Number (mul f (inf s) k) → mul f (inf s) k ≡ inf s
unfolding mul is_nan le
inf_times f s nan h a = absurd a
inf_times f s (inf true) h a = absurd h.from
inf_times f s (inf false) h a = absurd h.to
inf_times f true (fin false n d) h a = go (eqb n 0) a
  where
    go : (b : Bool) → Number (cond b nan (inf true)) → cond b nan (inf true) ≡ inf true
    go true a = absurd a
    go false a = refl
inf_times f false (fin false n d) h a = go (eqb n 0) a
  where
    go : (b : Bool) → Number (cond b nan (inf false)) → cond b nan (inf false) ≡ inf false
    go true a = absurd a
    go false a = refl
inf_times f s (fin true n d) h a = go (eqb n 0) (eq→eqb {a = n} {b = 0} (first_zero n (up d) (up_pos d) (none_under (fin true n d) tt h.from))) a
  where
    go : (b : Bool) → T b → Number (cond b nan (inf (unlike s true))) → cond b nan (inf (unlike s true)) ≡ inf s
    go true t a = absurd a
    go false t a = absurd t

module _ (p n c q m d : ℕ) (M : m ≡ 0) (Q : q ≤ d) where
  nothing_under : n ≡ 0 → 0 * (c * d) + (p * m + n * q) * 1 ≤ (p * q + n * m) * 1 + 0 * (c * d)
  nothing_under N = omega (arith, ap (λ (i : ℕ). p * i) M, ap (λ (i : ℕ). i * q) N)

  less_over : n ≡ 0 → (p * q + n * m) * c + n * (c * d) ≤ p * (c * d) + (p * m + n * q) * c
  less_over N = omega (arith, ap (λ (i : ℕ). i * m * c) N, ap (λ (i : ℕ). i * (c * d)) N, mul-le-mul_right (p * c) Q)

  nothing_over : p ≡ 0 → (p * q + n * m) * 1 + 0 * (c * d) ≤ 0 * (c * d) + (p * m + n * q) * 1
  nothing_over P = omega (arith, ap (λ (i : ℕ). n * i) M, ap (λ (i : ℕ). i * q) P)

  less_under : p ≡ 0 → p * (c * d) + (p * m + n * q) * c ≤ (p * q + n * m) * c + n * (c * d)
  less_under P = omega (arith, ap (λ (i : ℕ). i * m * c) P, ap (λ (i : ℕ). i * (c * d)) P, mul-le-mul_right (n * c) Q)

-- ---- between zero and the other factor
pub mul_up : (f : Format) (x k : Float) → T (fits f x) → Factor k → T (le nought x) → Number (mul f x k) → T (le nought (mul f x k)) × T (le (mul f x k) x)
unfolding le
mul_up f nan k t h z a = absurd z
mul_up f (inf true) k t h z a = absurd z
mul_up f (inf false) k t h z a = subst (λ (y : Float). T (le nought y) × T (le y (inf false))) (sym (inf_times f false k h a)) (tt, tt)
mul_up f (fin s m e) k t h z a =
    let x = fin s m e in
    let K = factor_finite k h in
    let u = none_under x tt z in
    let v = none_under k K h.from in
    let l = factor_over k h in
    let c = mul-pos (down_pos e) (den_pos k) in
    let w = mul_placed f x k tt K in (
      placed_ordered (own_placed f nought (nought_fits f) tt) w (lit< tt) c (nothing_under (over x) (under x) (den x) (over k) (under k) (den k) v l u),
      placed_ordered w (own_placed f x t tt) c (down_pos e) (less_over (over x) (under x) (den x) (over k) (under k) (den k) v l u),
    )

pub mul_down : (f : Format) (x k : Float) → T (fits f x) → Factor k → T (le x nought) → Number (mul f x k) → T (le x (mul f x k)) × T (le (mul f x k) nought)
unfolding le
mul_down f nan k t h z a = absurd z
mul_down f (inf false) k t h z a = absurd z
mul_down f (inf true) k t h z a = subst (λ (y : Float). T (le (inf true) y) × T (le y nought)) (sym (inf_times f true k h a)) (tt, tt)
mul_down f (fin s m e) k t h z a =
    let x = fin s m e in
    let K = factor_finite k h in
    let u = none_over x tt z in
    let v = none_under k K h.from in
    let l = factor_over k h in
    let c = mul-pos (down_pos e) (den_pos k) in
    let w = mul_placed f x k tt K in (
      placed_ordered (own_placed f x t tt) w (down_pos e) c (less_under (over x) (under x) (den x) (over k) (under k) (den k) v l u),
      placed_ordered w (own_placed f nought (nought_fits f) tt) c (lit< tt) (nothing_over (over x) (under x) (den x) (over k) (under k) (den k) v l u),
    )

-- ---- a square is not below zero
squared : (s : Bool) (a c : ℕ) → 0 * (c * c) + (gain s a * loss s a + loss s a * gain s a) * 1 ≤ (gain s a * gain s a + loss s a * loss s a) * 1 + 0 * (c * c)
squared true a c = omega arith
squared false a c = omega arith

pub square_up : (f : Format) (x : Float) → Number x → T (le nought (mul f x x))
unfolding mul le is_nan
square_up f nan a = absurd a
square_up f (inf true) a = tt
square_up f (inf false) a = tt
square_up f (fin s m e) a = placed_ordered (own_placed f nought (nought_fits f) tt) (mul_placed f (fin s m e) (fin s m e) tt tt) (lit< tt) (mul-pos (down_pos e) (down_pos e)) (squared s (m * up e) (down e))
