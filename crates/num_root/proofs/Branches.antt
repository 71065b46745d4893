-- The branches of `root`: what each test says of the value, and the root there. Assumes nothing.
use mathlib.Core.Path.{◌≡◌, refl, sym, ap, ◌∙◌, subst}
use mathlib.Core.Bool.{Bool, true, false, ◌&&◌, true≢false}
use Prim.Native.Nat.{ℕ, zero, suc, ◌*◌, ◌≤◌, ◌<◌}
use native.Mathlib.Nat.{le_trans, le_of_eq, not-le_of_lt, mul-pos, zero-mul, zero-lt-suc}
use lib.Dec.{T, eqb, eqb→eq}
use borrow.Author.Tests.{ltb-false}
use lib.IntN.{ℤ}
use lib.Ieee.{Float, nan, inf, fin, binary32, up, down, of_bits, to_bits, fits, lt, eq, level}
use lib.Ieee.Bits.{of_bits-to_bits}
use lib.Ieee.Fits.{up_pos}
use Rattle.num_root.specs.Root.{root}
use Rattle.base_binary32.proofs.Patterns.{finite_pattern}

zero_not : lt (of_bits binary32 0) (of_bits binary32 0) ≡ true → ⊥
unfolding lt of_bits
zero_not e = true≢false (sym e)

pub positive_pattern : (x : Float) → T (fits binary32 x) → lt (of_bits binary32 0) x ≡ true → 0 < to_bits binary32 x
positive_pattern x t h = go (to_bits binary32 x) (sym (of_bits-to_bits binary32 x t))
  where
    go : (n : ℕ) → x ≡ of_bits binary32 n → 0 < n
    go zero e = absurd (zero_not (ap (lt (of_bits binary32 0)) (sym e) ∙ h))
    go (suc n) e = zero-lt-suc n

pub at_infinity : (x : Float) → T (fits binary32 x) → lt (of_bits binary32 0) x ≡ true → 2139095040 ≤ to_bits binary32 x → x ≡ root binary32 x
unfolding lt of_bits root
at_infinity nan t h l = refl
at_infinity (inf true) t h l = absurd (true≢false (sym h))
at_infinity (inf false) t h l = refl
at_infinity (fin true m g) t h l = absurd (true≢false (sym h))
at_infinity (fin false m g) t h l = absurd (not-le_of_lt (finite_pattern m g t) l)

of_true : (a b : Bool) → (a && b) ≡ true → T a
of_true true b e = tt
of_true false b e = absurd (true≢false (sym e))

-- a number that is not zero, over a denominator
not_null : (m : ℕ) (g : ℤ) → suc m * up g * 1 ≤ 0 * down g → ⊥
not_null m g h = not-le_of_lt (mul-pos (mul-pos (zero-lt-suc m) (up_pos g)) (zero-lt-suc 0)) (le_trans h (le_of_eq (zero-mul (down g))))

level_zero : (s : Bool) (a b : ℕ) → a ≡ 0 → b ≡ 0 → level s a false b ≡ true
level_zero s a b p q = subst (λ (x : ℕ). level s x false b ≡ true) (sym p) (subst (λ (y : ℕ). level s 0 false y ≡ true) (sym q) (base s))
  where
    base : (s : Bool) → level s 0 false 0 ≡ true
    base true = refl
    base false = refl

pub at_zero : (x : Float) → eq x (of_bits binary32 0) ≡ true → x ≡ root binary32 x
unfolding eq of_bits root
at_zero nan h = refl
at_zero (inf s) h = absurd (true≢false (sym h))
at_zero (fin s zero g) h = refl
at_zero (fin s (suc m) g) h = absurd (not_null m g (le_of_eq (eqb→eq (suc m * up g * 1) (0 * down g) (of_true (eqb (suc m * up g * 1) (0 * down g)) _ h))))

pub elsewhere : (x : Float) → lt (of_bits binary32 0) x ≡ false → eq x (of_bits binary32 0) ≡ false → nan ≡ root binary32 x
unfolding lt eq of_bits root
elsewhere nan h k = refl
elsewhere (inf true) h k = refl
elsewhere (inf false) h k = absurd (true≢false h)
elsewhere (fin s zero g) h k = absurd (true≢false (sym (level_zero s (0 * up g * 1) (0 * down g) (ap (λ (x : ℕ). x * 1) (zero-mul (up g))) (zero-mul (down g))) ∙ k))
elsewhere (fin true (suc m) g) h k = refl
elsewhere (fin false (suc m) g) h k = absurd (not_null m g (ltb-false (0 * down g) (suc m * up g * 1) h))
