-- Below 256 an f32 times 65,536 is exact, so that the code's cut of it is the definition's. Assumes nothing.
use Rattle.std.proofs.Common.{◌≡◌, ℕ, zero, suc, ◌+◌, ◌-◌, ◌*◌, ◌/◌, ◌^◌, ◌<◌, ◌≤◌, min, Bool, true, false, not, ◌&&◌, ◌||◌, T, eqb, ◌⊎◌, ℤ, pos, sym, refl, ap, ◌∙◌, subst, ap₂, inl, inr, true≢false, le_of_eq, lt_of_lt_of_le, lt_of_le_of_lt, lt_irrefl, mul_assoc, div-lt_iff_lt-mul, eq-zero-or-pos, lt_of_mul-lt-mul_right, mul-lt-mul_of_pos_right, le-div_iff_mul-le, zero-mul, mul-one, mul_right_comm, arith, lit<, lit≤, eqb→eq, ltb→lt, lt→ltb, pow-add, ltb-false, ltb-true}
use mathlib.Core.Bool.{beq}
use native.Mathlib.Nat.{zero-div}
use lib.Ieee.{Float, nan, inf, fin, binary32, up, down, mul, neg, lt, eq, fits, to_unsigned, is_nan}
use lib.Ieee.Fits.{down_pos, and_l, neg-fits}
use lib.Ieee.Exact.{HasValue, round_exact}
use lib.Ieee.Nearest.{div_same}
use lib.Ieee.Positive.{above}
use Rattle.base_binary32.proofs.Grid.{on_grid}
use Rattle.std.specs.Float.{float_with_sign}
use Rattle.num_ramp.specs.Power.{parts}

abbrev zero32 : Float
zero32 = fin false 0 (pos 0)

abbrev times : Float
times = fin false 1 (pos 16)

abbrev cap : Float
cap = fin false 1 (pos 8)

-- ---- the product is exact
exact : (m : ℕ) (x : ℤ) → T (fits binary32 (fin false m x)) → m * up x < 2 ^ 8 * down x → HasValue (mul binary32 (fin false m x) times) false (m * up x * 65536) (down x * 1)
unfolding mul
exact m x t h =
    let g = on_grid false m x t in
    let d = down x in
    let digits : m * up x * 2 ^ 149 ≡ g.q * 2 ^ g.i * d = g.value.1 in
    let units : m * up x * 65536 * 2 ^ 149 ≡ g.q * 2 ^ (g.i + 16) * d = mul_right_comm (m * up x) 65536 (2 ^ 149) ∙ ap (λ (n : ℕ). n * 65536) digits ∙ moved g.q g.i d in
    let low : g.q * 2 ^ (g.i + 16) * d < 2 ^ 173 * d =
    lt_of_le_of_lt (le_of_eq (sym units ∙ mul_assoc (m * up x) 65536 (2 ^ 149)))
    (lt_of_lt_of_le (mul-lt-mul_of_pos_right h (lit< tt)) (le_of_eq (mul_right_comm (2 ^ 8) d (65536 * 2 ^ 149)))) in
    round_exact binary32 false (m * up x * 65536) (d * 1) g.q (g.i + 16) (subst (λ (n : ℕ). 0 < n) (sym (mul-one d)) (down_pos x)) g.small
    (lt_of_lt_of_le (lt_of_mul-lt-mul_right d low) (lit≤ tt))
    (units ∙ ap (λ (n : ℕ). g.q * 2 ^ (g.i + 16) * n) (sym (mul-one d)))
  where
    moved : (q i d : ℕ) → q * 2 ^ i * d * 65536 ≡ q * 2 ^ (i + 16) * d
    moved q i d = mul_right_comm (q * 2 ^ i) d 65536 ∙ ap (λ (n : ℕ). n * d) (mul_assoc q (2 ^ i) 65536 ∙ ap (λ (n : ℕ). q * n) (sym (pow-add 2 i 16)))

-- ---- what has the value a / c is cut to a / c
cut : (y : Float) (a c : ℕ) → 0 < c → a < 2 ^ 24 * c → HasValue y false a c
    → T (lt (fin true 1 (pos 0)) y) × T (lt y (fin false 1 (pos 64))) × (to_unsigned 64 y ≡ a / c)
unfolding lt to_unsigned
cut nan a c C h v = absurd v
cut (inf s) a c C h v = absurd v
cut (fin true n d) a c C h v = absurd (true≢false v.0)
cut (fin false n d) a c C h v = (
  lt→ltb 0 (1 * 1 * down d + n * up d * 1) (some (down d) (n * up d * 1) (down_pos d)),
  lt→ltb (n * up d * 1) (1 * 2 ^ 64 * down d) (wide (n * up d) (down d) below),
  ap (λ (q : ℕ). min q (2 ^ 64 - 1)) same ∙ keep (a / c) (lt_of_lt_of_le ((div-lt_iff_lt-mul C).1 h) (lit≤ tt)),
)
  where
    some : (x y : ℕ) → 0 < x → 0 < 1 * 1 * x + y
    some x y h = omega arith

    wide : (x y : ℕ) → x < 2 ^ 24 * y → x * 1 < 1 * 2 ^ 64 * y
    wide x y h = omega arith

    keep : (q : ℕ) → q < 2 ^ 63 → min q (2 ^ 64 - 1) ≡ q
    keep q h = omega arith

    below : n * up d < 2 ^ 24 * down d
    below = lt_of_mul-lt-mul_right c (lt_of_le_of_lt (le_of_eq v.1) (lt_of_lt_of_le (mul-lt-mul_of_pos_right h (down_pos d)) (le_of_eq (mul_right_comm (2 ^ 24) c (down d)))))

    same : n * up d / down d ≡ a / c
    same = div_same (n * up d) (down d) a c (down_pos d) C v.1

-- ---- above zero: below 256 the product is exact, and from there on the count is at its top
pub under : (a : Float) → T (fits binary32 a) → T (above a) → lt a cap ≡ true
    → T (lt (fin true 1 (pos 0)) (mul binary32 a times)) × T (lt (mul binary32 a times) (fin false 1 (pos 64))) × (to_unsigned 64 (mul binary32 a times) ≡ parts a)
unfolding lt parts
under nan f p h = absurd p
under (inf true) f p h = absurd p
under (inf false) f p h = absurd (true≢false (sym h))
under (fin true m x) f p h = absurd p
under (fin false zero x) f p h = absurd (lt_irrefl 0 (ltb→lt 0 0 p))
under (fin false (suc m) x) f p h =
    let l : suc m * up x < 2 ^ 8 * down x = bare (suc m * up x) (down x) (ltb-true (suc m * up x * 1) (1 * 2 ^ 8 * down x) h) in
    let r = cut (mul binary32 (fin false (suc m) x) times) (suc m * up x * 65536) (down x * 1) (subst (λ (n : ℕ). 0 < n) (sym (mul-one (down x))) (down_pos x)) (more (suc m * up x) (down x) l) (exact (suc m) x f l) in
    (r.0, r.1, r.2 ∙ ap (λ (c : ℕ). suc m * up x * 65536 / c) (mul-one (down x)) ∙ sym (keep (suc m * up x * 65536 / down x) ((div-lt_iff_lt-mul (down_pos x)).1 (most (suc m * up x) (down x) l))))
  where
    bare : (x c : ℕ) → x * 1 < 1 * 2 ^ 8 * c → x < 2 ^ 8 * c
    bare x c h = omega arith

    more : (x c : ℕ) → x < 2 ^ 8 * c → x * 65536 < 2 ^ 24 * (c * 1)
    more x c h = omega arith

    most : (x c : ℕ) → x < 2 ^ 8 * c → x * 65536 < 2 ^ 24 * c
    most x c h = omega arith

    keep : (q : ℕ) → q < 2 ^ 24 → min q 16777215 ≡ q
    keep q h = omega arith

pub over : (a : Float) → T (above a) → lt a cap ≡ false → 16777215 ≡ parts a
unfolding lt parts
over nan p h = absurd p
over (inf true) p h = absurd p
over (inf false) p h = refl
over (fin true m x) p h = absurd p
over (fin false m x) p h = top (m * up x * 65536 / down x) ((le-div_iff_mul-le (down_pos x)).1 (many (m * up x) (down x) (ltb-false (m * up x * 1) (1 * 2 ^ 8 * down x) h)))
  where
    many : (x c : ℕ) → 1 * 2 ^ 8 * c ≤ x * 1 → 2 ^ 24 * c ≤ x * 65536
    many x c h = omega arith

    top : (q : ℕ) → 2 ^ 24 ≤ q → 16777215 ≡ min q 16777215
    top q h = omega arith

-- ---- zero, and the size
pub none : (e : Float) → eq e zero32 ≡ true → 0 ≡ parts e
unfolding eq parts
none nan h = absurd (true≢false (sym h))
none (inf s) h = absurd (true≢false (sym h))
none (fin s m x) h =
    let t : T (eqb (m * up x * 1) (0 * down x) && (beq s false || eqb (m * up x * 1) 0)) = subst T (sym h) tt in
    let z : m * up x ≡ 0 = flat (m * up x) (down x) (eqb→eq (m * up x * 1) (0 * down x) (and_l (eqb (m * up x * 1) (0 * down x)) (beq s false || eqb (m * up x * 1) 0) t)) in
    sym (ap (λ (n : ℕ). min (n * 65536 / down x) 16777215) z ∙ ap (λ (n : ℕ). min n 16777215) (zero-div (down x)))
  where
    flat : (a c : ℕ) → a * 1 ≡ 0 * c → a ≡ 0
    flat a c h = omega arith

zero_is : (s : Bool) (m : ℕ) (x : ℤ) → m * up x * 1 ≡ 0 → eq (fin s m x) zero32 ≡ true
unfolding eq
zero_is s m x h = ap₂ (λ (a b : ℕ). eqb a b && (beq s false || eqb a 0)) h (zero-mul (down x)) ∙ last s
  where
    last : (s : Bool) → (beq s false || true) ≡ true
    last true = refl
    last false = refl

some : (s : Bool) (m : ℕ) (x : ℤ) → eq (fin s m x) zero32 ≡ false → 0 < m
some s m x z = go (eq-zero-or-pos m)
  where
    go : (m ≡ 0) ⊎ (0 < m) → 0 < m
    go (inl e) = absurd (true≢false (sym (zero_is s m x (ap (λ (n : ℕ). n * up x * 1) e ∙ ap (λ (n : ℕ). n * 1) (zero-mul (up x)))) ∙ z))
    go (inr h) = h

-- where e is no NaN and not 0, its size a is above 0, and is counted as e is
pub sized : (e a : Float) → a ≡ float_with_sign false e → T (not (is_nan e)) → eq e zero32 ≡ false → T (above a) × (parts a ≡ parts e)
unfolding is_nan parts float_with_sign
sized nan a d n z = absurd n
sized (inf s) a d n z = subst (λ (b : Float). T (above b) × (parts b ≡ 16777215)) (sym d) (tt, refl)
sized (fin s m x) a d n z = subst (λ (b : Float). T (above b) × (parts b ≡ parts (fin s m x))) (sym d) (lt→ltb 0 m (some s m x z), refl)

pub sized_fits : (e a : Float) → a ≡ float_with_sign false e → T (fits binary32 e) → T (fits binary32 a)
unfolding float_with_sign neg fits
sized_fits nan a d t = subst (λ (b : Float). T (fits binary32 b)) (sym d) t
sized_fits (inf s) a d t = subst (λ (b : Float). T (fits binary32 b)) (sym d) tt
sized_fits (fin true m x) a d t = subst (λ (b : Float). T (fits binary32 b)) (sym d) (neg-fits binary32 (fin true m x) t)
sized_fits (fin false m x) a d t = subst (λ (b : Float). T (fits binary32 b)) (sym d) t
