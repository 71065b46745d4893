-- Rounded quotients, products and sums are monotone: the points x + d * k of a way rise or fall with k. Assumes nothing.
use mathlib.Core.Path.{◌≡◌, refl, sym, ap, subst}
use mathlib.Core.Logic.{inl, inr}
use mathlib.Core.Bool.{Bool, true, false, cond}
use Prim.Native.Nat.{ℕ, ◌+◌, ◌*◌, ◌≤◌, ◌<◌}
use native.Mathlib.Nat.{eq-zero-or-pos, mul-pos, mul-le-mul_right}
use native.Mathlib.Omega.{arith}
use lib.Dec.{T, eqb, eqb→eq, lit<}
use lib.IntN.{pos}
use lib.Ieee.{Float, nan, inf, fin, Format, unlike, up, down, round, add, mul, div, le, of_int, fits, is_nan}
use lib.Ieee.Fits.{up_pos, down_pos, eq→eqb}
use lib.Ieee.Scale.{finite}
use lib.Ieee.Positive.{den, den_pos}
use Rattle.num_order.proofs.Signed.{AtMost, first_zero, gain, le→at-most, loss, over, under}
use Rattle.num_order.proofs.Chain.{Between, Number, le_refl, le_trans, nought, side}
use Rattle.num_order.proofs.Places.{Placed, placed_ordered, round_placed}
use Rattle.num_order.proofs.Products.{Factor, factor_finite, mul_placed, none_over, none_under}
use Rattle.num_order.proofs.Quotients.{div_placed}
use Rattle.num_order.proofs.Nans.{second, summand}
use Rattle.num_order.proofs.Sums.{add_mono}

-- ---- whole numbers
pub whole_mono : (f : Format) (i j : ℕ) → i ≤ j → T (le (of_int f (pos i)) (of_int f (pos j)))
unfolding of_int
whole_mono f i j h = placed_ordered (round_placed f false i i 0 1 (omega arith)) (round_placed f false j j 0 1 (omega arith)) (lit< tt) (lit< tt) (omega arith)

-- ---- quotients by a divisor that is not below zero
times : (p n c p' n' c' b d : ℕ) → p * c' + n' * c ≤ p' * c + n * c' → p * d * (b * c') + n' * d * (b * c) ≤ p' * d * (b * c) + n * d * (b * c')
times p n c p' n' c' b d h = omega (arith, mul-le-mul_right (b * d) h)

pub div_mono : (f : Format) (x x' y : Float) → T (le x x') → T (le nought y) → T (finite (div f x y)) → T (finite (div f x' y)) → T (le (div f x y) (div f x' y))
unfolding le div
div_mono f nan x' y h z a b = absurd h
div_mono f (inf s) x' nan h z a b = absurd a
div_mono f (inf s) x' (inf t) h z a b = absurd a
div_mono f (inf s) x' (fin t n d) h z a b = absurd a
div_mono f (fin s m e) nan y h z a b = absurd h
div_mono f (fin s m e) (inf s') nan h z a b = absurd b
div_mono f (fin s m e) (inf s') (inf t) h z a b = absurd b
div_mono f (fin s m e) (inf s') (fin t n d) h z a b = absurd b
div_mono f (fin s m e) (fin s' m' e') nan h z a b = absurd a
div_mono f (fin s m e) (fin s' m' e') (inf true) h z a b = absurd z
div_mono f (fin true m e) (fin true m' e') (inf false) h z a b = tt
div_mono f (fin true m e) (fin false m' e') (inf false) h z a b = tt
div_mono f (fin false m e) (fin true m' e') (inf false) h z a b = tt
div_mono f (fin false m e) (fin false m' e') (inf false) h z a b = tt
div_mono f (fin s m e) (fin s' m' e') (fin t n d) h z a b = go (eqb n 0) (eqb→eq n 0) (λ q. eq→eqb {a = n} {b = 0} q) a b
  where
    go : (r : Bool) → (T r → n ≡ 0) → (n ≡ 0 → T r)
        → T (finite (cond r (cond (eqb m 0) nan (inf (unlike s t))) (round f (unlike s t) (m * up e * down d) (n * up d * down e))))
        → T (finite (cond r (cond (eqb m' 0) nan (inf (unlike s' t))) (round f (unlike s' t) (m' * up e' * down d) (n * up d * down e'))))
        → T (le (cond r (cond (eqb m 0) nan (inf (unlike s t))) (round f (unlike s t) (m * up e * down d) (n * up d * down e))) (cond r (cond (eqb m' 0) nan (inf (unlike s' t))) (round f (unlike s' t) (m' * up e' * down d) (n * up d * down e'))))
    go true p q a b = absurd (none (eqb m 0) (unlike s t) a)
      where
        none : (c u : Bool) → T (finite (cond c nan (inf u))) → ⊥
        none true u g = g
        none false u g = g
    go false p q a b = at t refl
      where
        at : (r : Bool) → t ≡ r → T (le (round f (unlike s t) (m * up e * down d) (n * up d * down e)) (round f (unlike s' t) (m' * up e' * down d) (n * up d * down e')))
        at true g = absurd (q (first_zero n (up d) (up_pos d) (none_under (fin true n d) tt (subst (λ (r : Bool). T (le nought (fin r n d))) g z))))
        at false g =
            let N : 0 < n = elim (eq-zero-or-pos n) [ inl i ↦ absurd (q i) | inr i ↦ i ] in
            let l = le→at-most (fin s m e) (fin s' m' e') tt tt h in
            subst (λ (r : Bool). T (le (round f (unlike s r) (m * up e * down d) (n * up d * down e)) (round f (unlike s' r) (m' * up e' * down d) (n * up d * down e')))) (sym g)
            (placed_ordered (div_placed f s (m * up e) (down e) (n * up d) (down d)) (div_placed f s' (m' * up e') (down e') (n * up d) (down d))
            (mul-pos (mul-pos N (up_pos d)) (down_pos e)) (mul-pos (mul-pos N (up_pos d)) (down_pos e'))
            (times (gain s (m * up e)) (loss s (m * up e)) (down e) (gain s' (m' * up e')) (loss s' (m' * up e')) (down e') (n * up d) (down d) l))

-- ---- products with a factor that is finite and not below zero
pub record NonNegative (k : Float) : Type 0 where
  pub from : T (le nought k)
  pub bounded : T (finite k)

pub factor_nonnegative : (k : Float) → Factor k → NonNegative k
factor_nonnegative k h = record { from = h.from; bounded = factor_finite k h }

-- an infinity times a factor is itself or nan
inf_kept : (f : Format) (s : Bool) (k : Float) → NonNegative k → Number (mul f (inf s) k) → mul f (inf s) k ≡ inf s
unfolding mul is_nan le
inf_kept f s nan h a = absurd a
inf_kept f s (inf t) h a = absurd h.bounded
inf_kept f true (fin false n d) h a = go (eqb n 0) a
  where
    go : (b : Bool) → Number (cond b nan (inf true)) → cond b nan (inf true) ≡ inf true
    go true a = absurd a
    go false a = refl
inf_kept f false (fin false n d) h a = go (eqb n 0) a
  where
    go : (b : Bool) → Number (cond b nan (inf false)) → cond b nan (inf false) ≡ inf false
    go true a = absurd a
    go false a = refl
inf_kept f s (fin true n d) h a = go (eqb n 0) (eq→eqb {a = n} {b = 0} (first_zero n (up d) (up_pos d) (none_under (fin true n d) tt h.from))) a
  where
    go : (b : Bool) → T b → Number (cond b nan (inf (unlike s true))) → cond b nan (inf (unlike s true)) ≡ inf s
    go true t a = absurd a
    go false t a = absurd t

-- (p - n) / c times (q - m) / d, for n = 0 and for p = 0
module _ (p n c q m d q' m' d' : ℕ) (h : q * d' + m' * d ≤ q' * d + m * d') where
  rises : n ≡ 0 → (p * q + n * m) * (c * d') + (p * m' + n * q') * (c * d) ≤ (p * q' + n * m') * (c * d) + (p * m + n * q) * (c * d')
  rises N = omega (arith, mul-le-mul_right (p * c) h, ap (λ (i : ℕ). i * m * (c * d')) N, ap (λ (i : ℕ). i * q' * (c * d)) N, ap (λ (i : ℕ). i * m' * (c * d)) N, ap (λ (i : ℕ). i * q * (c * d')) N)

  sinks : p ≡ 0 → (p * q' + n * m') * (c * d) + (p * m + n * q) * (c * d') ≤ (p * q + n * m) * (c * d') + (p * m' + n * q') * (c * d)
  sinks P = omega (arith, mul-le-mul_right (n * c) h, ap (λ (i : ℕ). i * m * (c * d')) P, ap (λ (i : ℕ). i * q' * (c * d)) P, ap (λ (i : ℕ). i * m' * (c * d)) P, ap (λ (i : ℕ). i * q * (c * d')) P)

module _ (f : Format) (k k' : Float) (K : NonNegative k) (K' : NonNegative k') (l : T (le k k')) where
  pub mul_rises : (d : Float) → T (le nought d) → Number (mul f d k) → Number (mul f d k') → T (le (mul f d k) (mul f d k'))
  unfolding le
  mul_rises nan z a b = absurd z
  mul_rises (inf true) z a b = absurd z
  mul_rises (inf false) z a b = subst (λ (y : Float). T (le y (mul f (inf false) k'))) (sym (inf_kept f false k K a)) (subst (λ (y : Float). T (le (inf false) y)) (sym (inf_kept f false k' K' b)) tt)
  mul_rises (fin s m e) z a b =
      let x = fin s m e in
      placed_ordered (mul_placed f x k tt K.bounded) (mul_placed f x k' tt K'.bounded) (mul-pos (down_pos e) (den_pos k)) (mul-pos (down_pos e) (den_pos k'))
      (rises (over x) (under x) (den x) (over k) (under k) (den k) (over k') (under k') (den k') (le→at-most k k' K.bounded K'.bounded l) (none_under x tt z))

  pub mul_sinks : (d : Float) → T (le d nought) → Number (mul f d k) → Number (mul f d k') → T (le (mul f d k') (mul f d k))
  unfolding le
  mul_sinks nan z a b = absurd z
  mul_sinks (inf false) z a b = absurd z
  mul_sinks (inf true) z a b = subst (λ (y : Float). T (le (mul f (inf true) k') y)) (sym (inf_kept f true k K a)) (subst (λ (y : Float). T (le y (inf true))) (sym (inf_kept f true k' K' b)) tt)
  mul_sinks (fin s m e) z a b =
      let x = fin s m e in
      placed_ordered (mul_placed f x k' tt K'.bounded) (mul_placed f x k tt K.bounded) (mul-pos (down_pos e) (den_pos k')) (mul-pos (down_pos e) (den_pos k))
      (sinks (over x) (under x) (den x) (over k) (under k) (den k) (over k') (under k') (den k') (le→at-most k k' K.bounded K'.bounded l) (none_over x tt z))

-- ---- points of a way
abbrev pub point : Format → Float → Float → Float → Float
point f x d k = add f x (mul f d k)

module _ (f : Format) (x d : Float) where
  module _ (k k' : Float) (K : NonNegative k) (K' : NonNegative k') (l : T (le k k')) (a : Number (point f x d k)) (b : Number (point f x d k')) where
    pub point-rises : T (le nought d) → T (le (point f x d k) (point f x d k'))
    point-rises z = add_mono f x x (mul f d k) (mul f d k') (le_refl x (summand f x (mul f d k) a)) (mul_rises f k k' K K' l d z (second f x (mul f d k) a) (second f x (mul f d k') b)) a b

    pub point-sinks : T (le d nought) → T (le (point f x d k') (point f x d k))
    point-sinks z = add_mono f x x (mul f d k') (mul f d k) (le_refl x (summand f x (mul f d k) a)) (mul_sinks f k k' K K' l d z (second f x (mul f d k) a) (second f x (mul f d k') b)) b a

  -- a point whose factor lies between two others lies between their points
  pub points_between : (k l m : Float) → NonNegative k → NonNegative l → NonNegative m → T (le k l) → T (le l m) → Number d → Number (point f x d k) → Number (point f x d l) → Number (point f x d m) → Between (point f x d k) (point f x d l) (point f x d m)
  points_between k l m K L M h g D a b c =
      elim (side d D) [
        | inl z ↦ inl (point-rises k l K L h a b z, point-rises l m L M g b c z)
        | inr z ↦ inr (point-sinks l m L M g b c z, point-sinks k l K L h a b z)
      ]
