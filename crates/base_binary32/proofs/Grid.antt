-- The grid of the format: every finite value is q * 2 ^ i units of 2 ^ -149, with q below 2 ^ 24. Assumes nothing.
use mathlib.Core.Path.{◌≡◌, refl, sym, ap, ◌∙◌, subst}
use mathlib.Core.Logic.{inl, inr, ◌⊎◌}
use mathlib.Core.Bool.{Bool, ◌&&◌}
use Prim.Native.Nat.{ℕ, zero, suc, ◌+◌, ◌-◌, ◌*◌, ◌%◌, ◌^◌, ◌≤◌, ◌<◌, zero-le, suc-le-suc}
use native.Mathlib.Nat.{le_trans, le_of_eq, lt_of_le_of_lt, lt_of_lt_of_le, lt_of_not-le, not-le_of_lt, le_of_suc-le-suc, lt-suc_self, lt_of_mul-lt-mul_right, mul-lt-mul_of_pos_right, mul-le-mul_right, mul_assoc, mul_right_comm, mul-one, one-mul, zero-mul}
use native.Mathlib.Omega.{arith}
use lib.Dec.{T, leb, ltb, eqb, ltb→lt, leb→le, lit<}
use lib.IntN.{ℤ, pos, negsuc}
use lib.Pow.{pow_pos, pow-add, pow_mono, pow-lt}
use lib.Ieee.{Float, fin, binary32, up, down, fits}
use lib.Ieee.Exact.{HasValue}
use lib.Ieee.Fits.{and_l, and_r}

pub record Grid (s : Bool) (y : Float) : Type 0 where
  pub q : ℕ
  pub i : ℕ
  pub small : q < 2 ^ 24
  pub least : i < 277
  pub lead : (0 < q) ⊎ (i ≡ 0)
  pub value : HasValue y s (q * 2 ^ i) (2 ^ 149)

pub pow_lt_back : (a b : ℕ) → 2 ^ a < 2 ^ b → a < b
pow_lt_back a b h = lt_of_not-le (λ (g : b ≤ a). not-le_of_lt h (pow_mono g))

pow_le_back : (a b : ℕ) → 2 ^ a ≤ 2 ^ b → a ≤ b
pow_le_back a b h = le_of_suc-le-suc (pow_lt_back a (suc b) (lt_of_le_of_lt h (pow-lt (lt-suc_self b))))

one_le : (m k : ℕ) → k ≤ suc m * k
one_le m k = le_trans (le_of_eq (sym (one-mul k))) (mul-le-mul_right k (suc-le-suc zero-le))

pub on_grid : (s : Bool) (m : ℕ) (g : ℤ) → T (fits binary32 (fin s m g)) → Grid s (fin s m g)
unfolding fits
on_grid s zero g t = record { q = 0; i = 0; small = lit< tt; least = lit< tt; lead = inr refl; value = (refl, ap (λ (x : ℕ). x * 2 ^ 149) (zero-mul (up g)) ∙ zero-mul (2 ^ 149) ∙ sym (zero-mul (down g))) }
on_grid s (suc m) (pos k) t =
    let a : Bool = eqb (suc m % 2) 1 in
    let b : Bool = ltb (suc m) (2 ^ 24) in
    let c : Bool = leb 1 (2 ^ 149) in
    let d : Bool = ltb (suc m * 2 ^ k) (2 ^ 128 * 1) in
    let k_lt : k < 128 = pow_lt_back k 128 (lt_of_le_of_lt (one_le m (2 ^ k)) (ltb→lt (suc m * 2 ^ k) (2 ^ 128) (and_r (a && b && c) d t))) in
    record {
      q = suc m;
      i = k + 149;
      small = ltb→lt (suc m) (2 ^ 24) (and_r a b (and_l (a && b) c (and_l (a && b && c) d t)));
      least = omega arith;
      lead = inl (suc-le-suc zero-le);
      value = (refl, mul_assoc (suc m) (2 ^ k) (2 ^ 149) ∙ ap (λ (x : ℕ). suc m * x) (sym (pow-add 2 k 149)) ∙ sym (mul-one (suc m * 2 ^ (k + 149))));
    }
on_grid s (suc m) (negsuc k) t =
    let a : Bool = eqb (suc m % 2) 1 in
    let b : Bool = ltb (suc m) (2 ^ 24) in
    let c : Bool = leb (2 ^ suc k) (2 ^ 149) in
    let d : Bool = ltb (suc m * 1) (2 ^ 128 * 2 ^ suc k) in
    let k-le : suc k ≤ 149 = pow_le_back (suc k) 149 (leb→le (2 ^ suc k) (2 ^ 149) (and_r (a && b) c (and_l (a && b && c) d t))) in
    let w : 149 - suc k + suc k ≡ 149 = omega arith in
    record {
      q = suc m;
      i = 149 - suc k;
      small = ltb→lt (suc m) (2 ^ 24) (and_r a b (and_l (a && b) c (and_l (a && b && c) d t)));
      least = omega arith;
      lead = inl (suc-le-suc zero-le);
      value = (refl, ap (λ (x : ℕ). x * 2 ^ 149) (mul-one (suc m)) ∙ ap (λ (x : ℕ). suc m * 2 ^ x) (sym w) ∙ ap (λ (x : ℕ). suc m * x) (pow-add 2 (149 - suc k) (suc k)) ∙ sym (mul_assoc (suc m) (2 ^ (149 - suc k)) (2 ^ suc k)));
    }

-- a bound on the units, and on the exponent, from one on the fraction
pub units_lt : (s : Bool) (m : ℕ) (g : ℤ) (n b : ℕ) → HasValue (fin s m g) s n (2 ^ 149) → m * up g < 2 ^ b * down g → n < 2 ^ b * 2 ^ 149
units_lt s m g n b v h =
    lt_of_mul-lt-mul_right (down g) (lt_of_le_of_lt (le_of_eq (sym v.1)) (lt_of_lt_of_le (mul-lt-mul_of_pos_right h (pow_pos 149)) (le_of_eq (mul_right_comm (2 ^ b) (down g) (2 ^ 149)))))

pub exponent_lt : (q i b : ℕ) → (0 < q) ⊎ (i ≡ 0) → 0 < b → q * 2 ^ i < 2 ^ b → i < b
exponent_lt q i b (inl p) B h = pow_lt_back i b (lt_of_le_of_lt (le_trans (le_of_eq (sym (one-mul (2 ^ i)))) (mul-le-mul_right (2 ^ i) p)) h)
exponent_lt q i b (inr e) B h = subst (λ (k : ℕ). k < b) (sym e) B
