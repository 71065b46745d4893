-- `root` is monotone: 0 ≤ a and a ≤ b give root a ≤ root b, also at the zeros and at infinity. Assumes nothing.
use mathlib.Core.Path.{◌≡◌, refl, sym, ap, ◌∙◌, subst}
use mathlib.Core.Logic.{inl, inr, ◌⊎◌}
use mathlib.Core.Bool.{Bool, true, false, ◌&&◌, ◌||◌, true≢false}
use Prim.Native.Nat.{ℕ, zero, suc, ◌+◌, ◌*◌, ◌≤◌, ◌<◌, zero-le}
use native.Mathlib.Omega.{arith}
use native.Mathlib.Nat.{le_trans, le_of_eq, lt_irrefl, lt_of_lt_of_le, lt_of_le_of_lt, lt_trans, le_of_suc-le-suc, lt_of_not-le, mul-pos, mul_comm, mul_assoc, mul_left_comm, mul_right_comm, zero-mul, mul-le-mul_right, mul-lt-mul_of_pos_right, add_comm, zero-lt-suc}
use lib.Dec.{T, ltb, eqb, ltb→lt, lt→ltb, eqb→eq}
use lib.IntN.{ℤ, pos}
use lib.Ieee.{Float, nan, inf, fin, binary32, up, down, fits, lt, eq, le}
use lib.Ieee.Exact.{HasValue}
use lib.Ieee.Fits.{up_pos, down_pos, and_l, and_r}
use lib.Ieee.Order.{le_of_values}
use lib.Ieee.Positive.{num, den, den_pos, positive, le→cross}
use Rattle.num_root.specs.Root.{root, sq, unsigned, CorrectRoot}
use Rattle.num_root.proofs.Correct.{root_correct}
use Rattle.num_root.proofs.Unique.{cross→lt}

-- ---- two values above zero: no midpoint m / n lies below √a = √(p / q) and above √b = √(r / s)
squeeze : (m n p q r s : ℕ) → 0 < q → 0 < s → m * q < p * 4 * n → r * 4 * n < m * s → p * s ≤ r * q → ⊥
squeeze m n p q r s Q S h k l =
    lt_irrefl (m * q * s)
    (lt_trans (mul-lt-mul_of_pos_right h S)
    (lt_of_le_of_lt (le_trans (le_of_eq (regroup p n s)) (le_trans (mul-le-mul_right (4 * n) l) (le_of_eq (sym (regroup r n q)))))
    (lt_of_lt_of_le (mul-lt-mul_of_pos_right k Q) (le_of_eq (mul_right_comm m s q)))))
  where
    regroup : (x y z : ℕ) → x * 4 * y * z ≡ x * z * (4 * y)
    regroup x y z = simp (mul_assoc, mul_comm, mul_left_comm)

not_lt : (a b : ℕ) → (a < b → ⊥) → b ≤ a
not_lt a b f = le_of_suc-le-suc (lt_of_not-le (λ (g : suc a ≤ b). f g))

own : (x : Float) → T (unsigned x) → HasValue x false (num x) (den x)
own nan u = absurd u
own (inf s) u = absurd u
own (fin true m e) u = absurd u
own (fin false m e) u = (refl, refl)

module _ (a b r t : Float) (ca : CorrectRoot binary32 a r) (cb : CorrectRoot binary32 b t) (h : num a * den b ≤ num b * den a) where
  apart : T (lt t r) → ⊥
  apart l =
      let m : sq (num t * den r + num r * den t) ≡ sq (num r * den t + num t * den r) = ap sq (add_comm (num t * den r) (num r * den t)) in
      let n : sq (den t * den r) ≡ sq (den r * den t) = ap sq (mul_comm (den t) (den r)) in
      let k : num b * 4 * sq (den r * den t) < sq (num r * den t + num t * den r) * den b =
      subst (λ (x : ℕ). num b * 4 * x < sq (num r * den t + num t * den r) * den b) n (subst (λ (x : ℕ). num b * 4 * sq (den t * den r) < x * den b) m ((cb.nearest r ca.held ca.finite).0 l)) in
      squeeze (sq (num r * den t + num t * den r)) (sq (den r * den t)) (num a) (den a) (num b) (den b) (den_pos a) (den_pos b) ((ca.nearest t cb.held cb.finite).1 l) k h

  correct_mono : T (le r t)
  correct_mono =
      le_of_values r t (num r) (den r) (num t) (den t) (den_pos r) (den_pos t) (own r ca.finite) (own t cb.finite)
      (not_lt (num t * den r) (num r * den t) (λ l. apart (cross→lt t r cb.finite ca.finite l)))

-- ---- the zeros
or_l : (a b : Bool) → T a → T (a || b)
or_l true b t = tt
or_l false b t = absurd t

-- -0 is at most b / c, whose size is b here
minus_zero : (a b : ℕ) → a ≡ 0 → T (ltb 0 (a + b) || (eqb a b && (false || eqb a 0)))
minus_zero a zero z = subst (λ (x : ℕ). T (ltb 0 (x + 0) || (eqb x 0 && (false || eqb x 0)))) (sym z) tt
minus_zero a (suc b) z = or_l (ltb 0 (a + suc b)) _ (lt→ltb 0 (a + suc b) (omega arith))

zero_le_unsigned : (s : Bool) (e : ℤ) (x : Float) → T (unsigned x) → T (le (fin s 0 e) x)
unfolding le lt eq
zero_le_unsigned s e nan u = absurd u
zero_le_unsigned s e (inf t) u = absurd u
zero_le_unsigned s e (fin true n d) u = absurd u
zero_le_unsigned false e (fin false n d) u =
    le_of_values (fin false 0 e) (fin false n d) (0 * up e) (down e) (n * up d) (down d) (down_pos e) (down_pos d) (refl, refl) (refl, refl)
    (le_trans (le_of_eq (ap (λ (x : ℕ). x * down d) (zero-mul (up e)) ∙ zero-mul (down d))) zero-le)
zero_le_unsigned true e (fin false n d) u = minus_zero (0 * up e * down d) (n * up d * down e) (ap (λ (x : ℕ). x * down d) (zero-mul (up e)) ∙ zero-mul (down d))

-- ---- what is not at most what
or_split : (a b : Bool) → T (a || b) → T a ⊎ T b
or_split true b t = inl tt
or_split false b t = inr t

nothing : (e d : ℤ) → 0 * up e * down d ≡ 0
nothing e d = ap (λ (x : ℕ). x * down d) (zero-mul (up e)) ∙ zero-mul (down d)

something : (m : ℕ) (e d : ℤ) → 0 < suc m * up e * down d
something m e d = mul-pos (mul-pos (zero-lt-suc m) (up_pos e)) (down_pos d)

-- a zero, and a number below zero
zero_above : (s : Bool) (e : ℤ) (n : ℕ) (d : ℤ) → T (le (fin s 0 e) (fin true (suc n) d)) → ⊥
unfolding le lt eq
zero_above true e n d h = elim (or_split (ltb (suc n * up d * down e) (0 * up e * down d)) _ h) [ inl t ↦ omega (arith, nothing e d, ltb→lt (suc n * up d * down e) (0 * up e * down d) t) | inr t ↦ omega (arith, nothing e d, something n d e, eqb→eq (0 * up e * down d) (suc n * up d * down e) (and_l (eqb (0 * up e * down d) (suc n * up d * down e)) _ t)) ]
zero_above false e n d h = omega (arith, nothing e d, something n d e, eqb→eq (0 * up e * down d) (suc n * up d * down e) (and_l (eqb (0 * up e * down d) (suc n * up d * down e)) _ h))

-- a number above zero, and a zero or a number below zero
positive_above : (m : ℕ) (e : ℤ) (s : Bool) (n : ℕ) (d : ℤ) → T (le (fin false (suc m) e) (fin s n d)) → (s ≡ false) × (0 < n)
unfolding le lt eq
positive_above m e true n d h = absurd (omega (arith, something m e d, eqb→eq (suc m * up e * down d) 0 (and_r (eqb (suc m * up e * down d) (n * up d * down e)) (eqb (suc m * up e * down d) 0) h)))
positive_above m e false zero d h = absurd (elim (or_split (ltb (suc m * up e * down d) (0 * up d * down e)) _ h) [ inl t ↦ omega (arith, nothing d e, ltb→lt (suc m * up e * down d) (0 * up d * down e) t) | inr t ↦ omega (arith, nothing d e, something m e d, eqb→eq (suc m * up e * down d) (0 * up d * down e) (and_l (eqb (suc m * up e * down d) (0 * up d * down e)) _ t)) ])
positive_above m e false (suc n) d h = (refl, zero-lt-suc n)

below_infinity : (x : Float) → T (unsigned x) → T (le x (inf false))
unfolding le lt eq
below_infinity nan u = absurd u
below_infinity (inf s) u = absurd u
below_infinity (fin s m e) u = tt

-- ---- the law
pos_suc : (m : ℕ) (e : ℤ) → T (positive (fin false (suc m) e))
pos_suc m e = lt→ltb 0 (suc m) (zero-lt-suc m)

pub root_mono : (a b : Float) → T (fits binary32 a) → T (fits binary32 b) → T (le (fin false 0 (pos 0)) a) → T (le a b) → T (le (root binary32 a) (root binary32 b))
unfolding root le lt eq
root_mono nan b ta tb za h = absurd za
root_mono (inf true) b ta tb za h = absurd za
root_mono (inf false) nan ta tb za h = absurd h
root_mono (inf false) (inf true) ta tb za h = absurd h
root_mono (inf false) (inf false) ta tb za h = tt
root_mono (inf false) (fin t n d) ta tb za h = absurd h
root_mono (fin s zero e) nan ta tb za h = absurd h
root_mono (fin s zero e) (inf true) ta tb za h = absurd h
root_mono (fin s zero e) (inf false) ta tb za h = tt
root_mono (fin s zero e) (fin t zero d) ta tb za h = h
root_mono (fin s zero e) (fin true (suc n) d) ta tb za h = absurd (zero_above s e n d h)
root_mono (fin s zero e) (fin false (suc n) d) ta tb za h = zero_le_unsigned s e (root binary32 (fin false (suc n) d)) (root_correct (fin false (suc n) d) tb (pos_suc n d)).finite
root_mono (fin true (suc m) e) b ta tb za h = absurd (zero_above false (pos 0) m e za)
root_mono (fin false (suc m) e) nan ta tb za h = absurd h
root_mono (fin false (suc m) e) (inf true) ta tb za h = absurd h
root_mono (fin false (suc m) e) (inf false) ta tb za h = below_infinity (root binary32 (fin false (suc m) e)) (root_correct (fin false (suc m) e) ta (pos_suc m e)).finite
root_mono (fin false (suc m) e) (fin t zero d) ta tb za h = absurd (lt_irrefl 0 (positive_above m e t 0 d h).1)
root_mono (fin false (suc m) e) (fin true (suc n) d) ta tb za h = absurd (true≢false (positive_above m e true (suc n) d h).0)
root_mono (fin false (suc m) e) (fin false (suc n) d) ta tb za h =
    let a = fin false (suc m) e in
    let b = fin false (suc n) d in
    correct_mono a b (root binary32 a) (root binary32 b) (root_correct a ta (pos_suc m e)) (root_correct b tb (pos_suc n d)) (le→cross a b (pos_suc m e) (pos_suc n d) h)
