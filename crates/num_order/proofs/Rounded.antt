-- `round` keeps the order of fractions of either sign, and leaves a value of the format where it is. Assumes nothing.
use mathlib.Core.Path.{◌≡◌, refl, sym, ap, ◌∙◌, subst}
use mathlib.Core.Bool.{Bool, true, false, ◌&&◌, cond, true≢false}
use Prim.Native.Nat.{ℕ, zero, suc, ◌+◌, ◌-◌, ◌*◌, ◌/◌, ◌%◌, ◌^◌, ◌≤◌, ◌<◌, compare}
use native.Mathlib.Nat.{le_of_eq, le_of_suc-le-suc, lt-suc_self, lt_of_le_of_lt, lt_of_lt_of_le, lt_of_mul-lt-mul_right, mul-lt-mul_of_pos_right, mul_comm, mul_left_comm, mul_right_comm, mul_assoc, add-mul, mul-one, mul-pos, zero-mul, mul-le-mul_right, le_of_mul-le-mul_right}
use native.Mathlib.Omega.{arith}
use lib.Dec.{T, leb, ltb, eqb, leb→le, ltb→lt}
use lib.IntN.{ℤ, pos, negsuc}
use lib.Pow.{pow-add, pow_pos, pow-lt}
use lib.Ieee.{Float, nan, inf, fin, Format, prec, emax, low, up, down, size, nearest, odd, units, round, neg, le, fits, is_nan}
use lib.Ieee.Digits.{back}
use lib.Ieee.Exact.{HasValue, round_exact}
use lib.Ieee.Fits.{down_pos, and_l, and_r}
use lib.Ieee.Order.{round_mono}
use Rattle.base_binary32.proofs.Grid.{pow_lt_back}
use Rattle.base_binary32.proofs.Sign.{HasSign, round_sign}
use Rattle.num_order.proofs.Signed.{Ordered, at-most→le, first_zero, gain, loss}
use Rattle.num_order.proofs.Chain.{least, neg_anti}

-- ---- the sign goes through
odd_neg : (d : ℕ) (q k l : ℕ) → odd d true q k l ≡ neg (odd d false q k l)
unfolding odd neg
odd_neg d zero k l = refl
odd_neg d (suc q) k l = refl

units_neg : (f : Format) (q k : ℕ) → units f true q k ≡ neg (units f false q k)
unfolding units
units_neg f q k = go (ltb (q * 2 ^ k) (2 ^ (low f + suc (emax f))))
  where
    go : (b : Bool) → cond b (odd (suc (prec f)) true q k (low f)) (inf true) ≡ neg (cond b (odd (suc (prec f)) false q k (low f)) (inf false))
    go true = odd_neg (suc (prec f)) q k (low f)
    go false = unfold neg in refl

pub round-neg : (f : Format) (a c : ℕ) → round f true a c ≡ neg (round f false a c)
unfolding round
round-neg f a c =
    let n = a * 2 ^ low f in
    let k = size (n / c) - prec f in
    let u = c * 2 ^ k in
    units_neg f (nearest (n / u) (compare (n % u * 2) u)) k

-- ---- values by the fractions that they equal
scaled : (X e Y k a c b d U W u v : ℕ) → 0 < c → 0 < d → X * c ≡ a * e → U * c ≡ u * e → Y * d ≡ b * k → W * d ≡ v * k → a * d + v * c ≤ b * c + u * d → X * k + W * e ≤ Y * e + U * k
scaled X e Y k a c b d U W u v C D p q r t h =
    let z : (X * k + W * e) * (c * d) ≤ (Y * e + U * k) * (c * d) =
    simp (add-mul, mul_assoc, mul_comm, mul_left_comm)
    (omega (
      arith,
      simp (mul_assoc, mul_comm, mul_left_comm) at (ap (λ (n : ℕ). n * (k * d)) p),
      simp (mul_assoc, mul_comm, mul_left_comm) at (ap (λ (n : ℕ). n * (k * d)) q),
      simp (mul_assoc, mul_comm, mul_left_comm) at (ap (λ (n : ℕ). n * (e * c)) r),
      simp (mul_assoc, mul_comm, mul_left_comm) at (ap (λ (n : ℕ). n * (e * c)) t),
      simp (add-mul, mul_assoc, mul_comm, mul_left_comm) at (mul-le-mul_right (e * k) h),
    )) in
    le_of_mul-le-mul_right z (mul-pos C D)

gains : (s : Bool) (X a c e : ℕ) → X * c ≡ a * e → gain s X * c ≡ gain s a * e
gains true X a c e h = omega arith
gains false X a c e h = h

losses : (s : Bool) (X a c e : ℕ) → X * c ≡ a * e → loss s X * c ≡ loss s a * e
losses true X a c e h = h
losses false X a c e h = omega arith

pub values_ordered : (x : Float) (s : Bool) (a c : ℕ) (y : Float) (t : Bool) (b d : ℕ) → 0 < c → 0 < d → HasValue x s a c → HasValue y t b d → Ordered s a c t b d → T (le x y)
values_ordered nan s a c y t b d C D p q h = absurd p
values_ordered (inf r) s a c y t b d C D p q h = absurd p
values_ordered (fin r m e) s a c nan t b d C D p q h = absurd q
values_ordered (fin r m e) s a c (inf v) t b d C D p q h = absurd q
values_ordered (fin r m e) s a c (fin v n k) t b d C D p q h =
    subst (λ (w : Bool). T (le (fin w m e) (fin v n k))) (sym p.0)
    (subst (λ (w : Bool). T (le (fin s m e) (fin w n k))) (sym q.0)
    (at-most→le (fin s m e) (fin t n k) tt tt
    (scaled (gain s (m * up e)) (down e) (gain t (n * up k)) (down k) (gain s a) c (gain t b) d (loss s (m * up e)) (loss t (n * up k)) (loss s a) (loss t b) C D
    (gains s (m * up e) a c (down e) p.1) (losses s (m * up e) a c (down e) p.1) (gains t (n * up k) b d (down k) q.1) (losses t (n * up k) b d (down k) q.1) h)))

-- ---- the four pairs of signs
below_above : (x y : Float) → HasSign x true → HasSign y false → T (le x y)
unfolding le is_nan
below_above nan y p q = absurd p
below_above (inf true) nan p q = absurd q
below_above (inf true) (inf t) p q = least (inf t) tt
below_above (inf true) (fin t n d) p q = tt
below_above (inf false) y p q = absurd (true≢false (sym p))
below_above (fin false m e) y p q = absurd (true≢false (sym p))
below_above (fin true m e) nan p q = absurd q
below_above (fin true m e) (inf true) p q = absurd (true≢false q)
below_above (fin true m e) (inf false) p q = tt
below_above (fin true m e) (fin true n d) p q = absurd (true≢false q)
below_above (fin true m e) (fin false n d) p q = at-most→le (fin true m e) (fin false n d) tt tt (omega arith)

zero_value : (f : Format) (s : Bool) (a c : ℕ) → 0 < c → a ≡ 0 → HasValue (round f s a c) s a c
zero_value f s a c C z =
    subst (λ (n : ℕ). HasValue (round f s n c) s n c) (sym z)
    (round_exact f s 0 c 0 0 C (pow_pos (prec f)) (pow_pos (low f + suc (emax f))) (zero-mul (2 ^ low f) ∙ sym (zero-mul c)))

pub round_ordered : (f : Format) (s : Bool) (a c : ℕ) (t : Bool) (b d : ℕ) → 0 < c → 0 < d → Ordered s a c t b d → T (le (round f s a c) (round f t b d))
round_ordered f false a c false b d C D h = round_mono f a c b d C D (omega arith)
round_ordered f true a c true b d C D h = subst (λ (x : Float). T (le x (round f true b d))) (sym (round-neg f a c)) (subst (λ (x : Float). T (le (neg (round f false a c)) x)) (sym (round-neg f b d)) (neg_anti (round f false b d) (round f false a c) (round_mono f b d a c D C (omega arith))))
round_ordered f true a c false b d C D h = below_above (round f true a c) (round f false b d) (round_sign f true a c) (round_sign f false b d)
round_ordered f false a c true b d C D h =
    values_ordered (round f false a c) false a c (round f true b d) true b d C D
    (zero_value f false a c C (first_zero a d D (omega arith))) (zero_value f true b d D (first_zero b c C (omega arith))) h

-- ---- a value of the format rounds to itself
record Place (f : Format) (m : ℕ) (e : ℤ) : Type 0 where
  j : ℕ
  same : m * up e * 2 ^ low f ≡ m * 2 ^ j * down e

place : (f : Format) (m : ℕ) (e : ℤ) → down e ≤ 2 ^ low f → Place f m e
place f m (pos k) h = record { j = k + low f; same = mul_assoc m (2 ^ k) (2 ^ low f) ∙ ap (λ (n : ℕ). m * n) (sym (pow-add 2 k (low f))) ∙ sym (mul-one (m * 2 ^ (k + low f))) }
place f m (negsuc k) h =
    let l : suc k ≤ low f = le_of_suc-le-suc (pow_lt_back (suc k) (suc (low f)) (lt_of_le_of_lt h (pow-lt (lt-suc_self (low f))))) in
    let w : low f - suc k + suc k ≡ low f = back (low f) (suc k) l in
    record { j = low f - suc k; same = ap (λ (n : ℕ). n * 2 ^ low f) (mul-one m) ∙ ap (λ (n : ℕ). m * n) (ap (λ (n : ℕ). 2 ^ n) (sym w) ∙ pow-add 2 (low f - suc k) (suc k)) ∙ sym (mul_assoc m (2 ^ (low f - suc k)) (2 ^ suc k)) }

pub own_value : (f : Format) (s : Bool) (m : ℕ) (e : ℤ) → T (fits f (fin s m e)) → HasValue (round f s (m * up e) (down e)) s (m * up e) (down e)
unfolding fits
own_value f s zero e t = zero_value f s (0 * up e) (down e) (down_pos e) (zero-mul (up e))
own_value f s (suc m) e t =
    let a : Bool = eqb (suc m % 2) 1 in
    let b : Bool = ltb (suc m) (2 ^ prec f) in
    let c : Bool = leb (down e) (2 ^ low f) in
    let d : Bool = ltb (suc m * up e) (2 ^ suc (emax f) * down e) in
    let p = place f (suc m) e (leb→le (down e) (2 ^ low f) (and_r (a && b) c (and_l (a && b && c) d t))) in
    let h = ltb→lt (suc m * up e) (2 ^ suc (emax f) * down e) (and_r (a && b && c) d t) in
    round_exact f s (suc m * up e) (down e) (suc m) p.j (down_pos e) (ltb→lt (suc m) (2 ^ prec f) (and_r a b (and_l (a && b) c (and_l (a && b && c) d t)))) (below p.j p.same h) p.same
  where
    below : (j : ℕ) → suc m * up e * 2 ^ low f ≡ suc m * 2 ^ j * down e → suc m * up e < 2 ^ suc (emax f) * down e → suc m * 2 ^ j < 2 ^ (low f + suc (emax f))
    below j q h =
        lt_of_mul-lt-mul_right (down e) (lt_of_le_of_lt (le_of_eq (sym q)) (lt_of_lt_of_le (mul-lt-mul_of_pos_right h (pow_pos (low f))) (le_of_eq
        (mul_right_comm (2 ^ suc (emax f)) (down e) (2 ^ low f) ∙ ap (λ (n : ℕ). n * down e) (mul_comm (2 ^ suc (emax f)) (2 ^ low f) ∙ sym (pow-add 2 (low f) (suc (emax f))))))))
