-- `root` is the correctly rounded root: strictly nearer to √x than any other value of the format. Assumes nothing.
use mathlib.Core.Path.{◌≡◌, sym, ap, ◌∙◌, subst}
use mathlib.Core.Bool.{true, false, true≢false}
use Prim.Native.Nat.{ℕ, zero, suc, ◌+◌, ◌-◌, ◌*◌, ◌/◌, ◌%◌, ◌^◌, ◌≤◌, ◌<◌}
use native.Mathlib.Nat.{le_trans, le_of_eq, le_of_lt, lt_of_lt_of_le, lt_of_le_of_lt, lt_of_not-le, not-le_of_lt, mul-pos, mul_assoc, mul_comm, mul_left_comm, mul_right_comm, mul-mul-mul_comm, add-mul, mul-le-mul_left, mul-le-mul_right, mul-lt-mul_of_pos_right, lt_of_mul-lt-mul_right, pow-suc, div-add-mod'}
use native.Mathlib.Omega.{arith}
use native.Mathlib.Decide.{dec_le}
use lib.Dec.{T, ltb→lt, lit<}
use lib.Pow.{pow_pos, pow-add, pow_mono}
use lib.Arith.{lt_of_le-ne}
use lib.Ieee.{Float, nan, inf, fin, binary32, up, down, fits, lt, units}
use lib.Ieee.Exact.{HasValue, units_val}
use lib.Ieee.Positive.{num, den, den_pos, positive, value→cross, value_pos, first_pos}
use Rattle.num_root.specs.Root.{root, isqrt, sq, unsigned, CorrectRoot}
use Rattle.base_binary32.proofs.Grid.{Grid, on_grid}
use Rattle.num_root.proofs.Squares.{sq_mono, sq_lt, small}
use Rattle.num_root.proofs.Floors.{Floor, even_root, isqrt_floor}
use Rattle.num_root.proofs.Rooted.{shifted, wide, half_exponent, lifted, lift, finer, moved, root_is, digits_ge, root_fits}

-- ---- two values of the grid
same_unit : (m i k : ℕ) → k ≤ i → m * 2 ^ i ≡ m * 2 ^ (i - k) * 2 ^ k
same_unit m i k h = ap (λ (x : ℕ). m * 2 ^ x) (omega arith) ∙ ap (λ (x : ℕ). m * x) (pow-add 2 (i - k) k) ∙ sym (mul_assoc m (2 ^ (i - k)) (2 ^ k))

below_unit : (m i j : ℕ) → m < 2 ^ 24 → i < suc j → m * 2 ^ i < 2 ^ 23 * 2 ^ suc j
below_unit m i j h l =
    lt_of_lt_of_le (mul-lt-mul_of_pos_right h (pow_pos i))
    (le_trans (mul-le-mul_left (2 ^ 24) (pow_mono {j = j} (omega arith)))
    (le_of_eq (mul_assoc (2 ^ 23) 2 (2 ^ j) ∙ ap (λ (x : ℕ). 2 ^ 23 * x) (mul_comm 2 (2 ^ j) ∙ sym (pow-suc 2 j)))))

next_up : (m i q j : ℕ) → m < 2 ^ 24 → 2 ^ 23 ≤ q → q * 2 ^ suc j < m * 2 ^ i → suc q * 2 ^ suc j ≤ m * 2 ^ i
next_up m i q j h a l = go (dec_le (suc j) i)
  where
    go : Dec (suc j ≤ i) → suc q * 2 ^ suc j ≤ m * 2 ^ i
    go (yes g) =
        let e = same_unit m i (suc j) g in
        le_trans (mul-le-mul_right (2 ^ suc j) (lt_of_mul-lt-mul_right (2 ^ suc j) (lt_of_lt_of_le l (le_of_eq e)))) (le_of_eq (sym e))
    go (no g) = absurd (not-le_of_lt l (le_trans (le_of_lt (below_unit m i j h (lt_of_not-le g))) (mul-le-mul_right (2 ^ suc j) a)))

next_down : (m i q j : ℕ) → m < 2 ^ 24 → 2 ^ 23 ≤ q → m * 2 ^ i < suc q * 2 ^ suc j → m * 2 ^ i ≤ q * 2 ^ suc j
next_down m i q j h a l = go (dec_le (suc j) i)
  where
    go : Dec (suc j ≤ i) → m * 2 ^ i ≤ q * 2 ^ suc j
    go (yes g) =
        let e = same_unit m i (suc j) g in
        let o : m * 2 ^ (i - suc j) < suc q = lt_of_mul-lt-mul_right (2 ^ suc j) (lt_of_le_of_lt (le_of_eq (sym e)) l) in
        le_trans (le_of_eq e) (mul-le-mul_right (2 ^ suc j) (omega arith))
    go (no g) = le_trans (le_of_lt (below_unit m i j h (lt_of_not-le g))) (mul-le-mul_right (2 ^ suc j) a)

-- ---- in units of 2 ^ -149: r is (s / 2 + s % 2) * 2 ^ suc j, y is m * 2 ^ i, and the root is that of n * (2 ^ j * 2 ^ j)
twice : (s j : ℕ) → s * 2 * j * (s * 2 * j) ≡ s * s * (j * j) * 4
twice s j = simp (mul_assoc, mul_comm, mul_left_comm) (omega arith)

module _ (n j s m i : ℕ) (lo : 2 ^ 24 ≤ s) (even : n % 2 ≡ 0) (fs : Floor n s) (h : m < 2 ^ 24) where
  A : ℕ
  A = (s / 2 + s % 2) * 2 ^ suc j

  unit : (k : ℕ) → k * 2 ^ suc j ≡ k * 2 * 2 ^ j
  unit k = ap (λ (x : ℕ). k * x) (pow-suc 2 j ∙ mul_comm (2 ^ j) 2) ∙ sym (mul_assoc k 2 (2 ^ j))

  -- y above r: the midpoint is at least (s + 1) * 2 ^ j
  above : (s / 2 + s % 2) * 2 ^ suc j < m * 2 ^ i → n * (2 ^ j * 2 ^ j) * 4 < ((s / 2 + s % 2) * 2 ^ suc j + m * 2 ^ i) * ((s / 2 + s % 2) * 2 ^ suc j + m * 2 ^ i)
  above l =
      let q = s / 2 + s % 2 in
      let a : suc q * 2 ^ suc j ≤ m * 2 ^ i = next_up m i q j h (omega arith) l in
      let b : (suc s * 2) * 2 ^ j ≤ (q * 2 + suc q * 2) * 2 ^ j = mul-le-mul_right (2 ^ j) (omega arith) in
      let c : (q * 2 + suc q * 2) * 2 ^ j ≡ q * 2 ^ suc j + suc q * 2 ^ suc j = add-mul (q * 2) (suc q * 2) (2 ^ j) ∙ ap (λ (x : ℕ). x + suc q * 2 * 2 ^ j) (sym (unit q)) ∙ ap (λ (x : ℕ). q * 2 ^ suc j + x) (sym (unit (suc q))) in
      let d : (suc s * 2) * 2 ^ j ≤ q * 2 ^ suc j + m * 2 ^ i = omega arith in
      lt_of_lt_of_le (mul-lt-mul_of_pos_right (mul-lt-mul_of_pos_right fs.1 (mul-pos (pow_pos j) (pow_pos j))) (lit< {m = 0} {n = 4} tt))
      (le_trans (le_of_eq (sym (twice (suc s) (2 ^ j)))) (sq_mono (suc s * 2 * 2 ^ j) (q * 2 ^ suc j + m * 2 ^ i) d))

  below : m * 2 ^ i < (s / 2 + s % 2) * 2 ^ suc j → ((s / 2 + s % 2) * 2 ^ suc j + m * 2 ^ i) * ((s / 2 + s % 2) * 2 ^ suc j + m * 2 ^ i) < n * (2 ^ j * 2 ^ j) * 4
  below l = go (s / 2) (s % 2) (div-add-mod' s 2) (omega arith) l
    where
      go : (q b : ℕ) → q * 2 + b ≡ s → b < 2 → m * 2 ^ i < (q + b) * 2 ^ suc j → ((q + b) * 2 ^ suc j + m * 2 ^ i) * ((q + b) * 2 ^ suc j + m * 2 ^ i) < n * (2 ^ j * 2 ^ j) * 4
      go q zero e t l =
          let s-is : (q + 0) * 2 ≡ s = omega arith in
          let c : (q + 0) * 2 ^ suc j ≡ s * 2 ^ j = unit (q + 0) ∙ ap (λ (x : ℕ). x * 2 ^ j) s-is in
          let d : s * 2 * 2 ^ j ≡ s * 2 ^ j * 2 = mul_right_comm s 2 (2 ^ j) in
          lt_of_lt_of_le (sq_lt ((q + 0) * 2 ^ suc j + m * 2 ^ i) (s * 2 * 2 ^ j) (omega arith))
          (le_trans (le_of_eq (twice s (2 ^ j))) (mul-le-mul_right 4 (mul-le-mul_right (2 ^ j * 2 ^ j) fs.0)))
      go q (suc zero) e t l =
          let one : q + 1 ≡ suc q = omega arith in
          let a : m * 2 ^ i ≤ q * 2 ^ suc j = next_down m i q j h (omega arith) (subst (λ (x : ℕ). m * 2 ^ i < x * 2 ^ suc j) one l) in
          let b : (q + 1) * 2 ^ suc j + q * 2 ^ suc j ≡ s * 2 * 2 ^ j = sym (add-mul (q + 1) q (2 ^ suc j)) ∙ unit (q + 1 + q) ∙ ap (λ (x : ℕ). x * 2 ^ j) (omega arith) in
          let o : s * s < n = lt_of_le-ne fs.0 (λ (z : s * s ≡ n). absurd (omega (arith, e, even_root s (ap (λ (x : ℕ). x % 2) z ∙ even)))) in
          lt_of_le_of_lt (sq_mono ((q + 1) * 2 ^ suc j + m * 2 ^ i) (s * 2 * 2 ^ j) (omega arith))
          (lt_of_le_of_lt (le_of_eq (twice s (2 ^ j))) (mul-lt-mul_of_pos_right (mul-lt-mul_of_pos_right o (mul-pos (pow_pos j) (pow_pos j))) (lit< {m = 0} {n = 4} tt)))
      go q (suc (suc b)) e t l = absurd (omega (arith, t))

ac1 : (u k l : ℕ) → u * 4 * k * (l * l) ≡ u * l * l * (4 * k)
ac1 u k l = simp (mul_assoc, mul_comm, mul_left_comm)

ac2 : (n w l k : ℕ) → n * w * l * (4 * k) ≡ n * l * 4 * (k * w)
ac2 n w l k = simp (mul_assoc, mul_comm, mul_left_comm)

-- ---- from fractions to units: a / c is A, b / d is Y and u / w is N, each over l
module _ (a c b d u w A Y N v l : ℕ) (L : 0 < l) (C : 0 < c) (D : 0 < d) (W : 0 < w) (p : a * l ≡ A * c) (q : b * l ≡ Y * d) (r : u * l ≡ N * w) (e : N * l ≡ v) where
  sum_is : (a * d + b * c) * l ≡ (A + Y) * (c * d)
  sum_is =
      let x : a * d * l ≡ A * (c * d) = mul_right_comm a d l ∙ ap (λ (z : ℕ). z * d) p ∙ mul_assoc A c d in
      let y : b * c * l ≡ Y * (c * d) = mul_right_comm b c l ∙ ap (λ (z : ℕ). z * c) q ∙ mul_assoc Y d c ∙ ap (λ (z : ℕ). Y * z) (mul_comm d c) in
      add-mul (a * d) (b * c) l ∙ ap (λ (z : ℕ). z + b * c * l) x ∙ ap (λ (z : ℕ). A * (c * d) + z) y ∙ sym (add-mul A Y (c * d))

  squared : sq (a * d + b * c) * w * (l * l) ≡ sq (A + Y) * (sq (c * d) * w)
  squared =
      mul_right_comm (sq (a * d + b * c)) w (l * l)
      ∙ ap (λ (z : ℕ). z * w) (mul-mul-mul_comm (a * d + b * c) (a * d + b * c) l l ∙ ap sq sum_is ∙ mul-mul-mul_comm (A + Y) (c * d) (A + Y) (c * d))
      ∙ mul_assoc (sq (A + Y)) (sq (c * d)) w

  scaled_up : u * 4 * sq (c * d) * (l * l) ≡ v * 4 * (sq (c * d) * w)
  scaled_up = ac1 u (sq (c * d)) l ∙ ap (λ (z : ℕ). z * l * (4 * sq (c * d))) r ∙ ac2 N w l (sq (c * d)) ∙ ap (λ (z : ℕ). z * 4 * (sq (c * d) * w)) e

  room : 0 < sq (c * d) * w
  room = mul-pos (mul-pos (mul-pos C D) (mul-pos C D)) W

  to_below : v * 4 < sq (A + Y) → u * 4 * sq (c * d) < sq (a * d + b * c) * w
  to_below h = lt_of_mul-lt-mul_right (l * l) (lt_of_le_of_lt (le_of_eq scaled_up) (lt_of_lt_of_le (mul-lt-mul_of_pos_right h room) (le_of_eq (sym squared))))

  to_above : sq (A + Y) < v * 4 → sq (a * d + b * c) * w < u * 4 * sq (c * d)
  to_above h = lt_of_mul-lt-mul_right (l * l) (lt_of_le_of_lt (le_of_eq squared) (lt_of_lt_of_le (mul-lt-mul_of_pos_right h room) (le_of_eq (sym scaled_up))))

  order : a * d < b * c → A < Y
  order h =
      lt_of_mul-lt-mul_right (c * d)
      (lt_of_le_of_lt (le_of_eq (sym (mul_right_comm a d l ∙ ap (λ (z : ℕ). z * d) p ∙ mul_assoc A c d)))
      (lt_of_lt_of_le (mul-lt-mul_of_pos_right h L) (le_of_eq (mul_right_comm b c l ∙ ap (λ (z : ℕ). z * c) q ∙ mul_assoc Y d c ∙ ap (λ (z : ℕ). Y * z) (mul_comm d c)))))

  order_down : b * c < a * d → Y < A
  order_down h =
      lt_of_mul-lt-mul_right (c * d)
      (lt_of_le_of_lt (le_of_eq (sym (mul_right_comm b c l ∙ ap (λ (z : ℕ). z * c) q ∙ mul_assoc Y d c ∙ ap (λ (z : ℕ). Y * z) (mul_comm d c))))
      (lt_of_lt_of_le (mul-lt-mul_of_pos_right h L) (le_of_eq (mul_right_comm a d l ∙ ap (λ (z : ℕ). z * d) p ∙ mul_assoc A c d))))

  -- both sides of the midpoint
  nearer : (A < Y → v * 4 < sq (A + Y)) → (Y < A → sq (A + Y) < v * 4) → (a * d < b * c → u * 4 * sq (c * d) < sq (a * d + b * c) * w) × (b * c < a * d → sq (a * d + b * c) * w < u * 4 * sq (c * d))
  nearer f g = (λ h. to_below (f (order h)), λ h. to_above (g (order_down h)))

lt→cross : (x y : Float) (a b l : ℕ) → HasValue x false a l → HasValue y false b l → T (lt x y) → num x * den y < num y * den x
unfolding lt
lt→cross nan y a b l p q t = absurd p
lt→cross (inf s) y a b l p q t = absurd p
lt→cross (fin true m e) y a b l p q t = absurd (true≢false p.0)
lt→cross (fin false m e) nan a b l p q t = absurd q
lt→cross (fin false m e) (inf s) a b l p q t = absurd q
lt→cross (fin false m e) (fin true n d) a b l p q t = absurd (true≢false q.0)
lt→cross (fin false m e) (fin false n d) a b l p q t = ltb→lt (m * up e * down d) (n * up d * down e) t

positive→unsigned : (x : Float) → T (positive x) → T (unsigned x)
positive→unsigned nan p = p
positive→unsigned (inf s) p = p
positive→unsigned (fin true m e) p = p
positive→unsigned (fin false m e) p = tt

-- q * 2 ^ k units are a value of the format
units_in : (q k : ℕ) → q ≤ 2 ^ 24 → 24 + k ≤ 276 → HasValue (units binary32 false q k) false (q * 2 ^ k) (2 ^ 149)
units_in q k h l = units_val binary32 false q k (lt_of_le_of_lt (mul-le-mul_right (2 ^ k) h) (lt_of_le_of_lt (le_of_eq (sym (pow-add 2 24 k))) (lt_of_le_of_lt (pow_mono l) (lit< {m = 2 ^ 276} {n = 2 ^ 277} tt))))

has→unsigned : (x : Float) (a c : ℕ) → HasValue x false a c → T (unsigned x)
has→unsigned nan a c h = h
has→unsigned (inf s) a c h = h
has→unsigned (fin true m e) a c h = absurd (true≢false h.0)
has→unsigned (fin false m e) a c h = tt

pub unsigned_grid : (y : Float) → T (fits binary32 y) → T (unsigned y) → Grid false y
unsigned_grid nan t u = absurd u
unsigned_grid (inf s) t u = absurd u
unsigned_grid (fin true m g) t u = absurd u
unsigned_grid (fin false m g) t u = on_grid false m g t

-- for every x of the format that is finite and above zero
pub root_correct : (x : Float) → T (fits binary32 x) → T (positive x) → CorrectRoot binary32 x (root binary32 x)
root_correct x tx px =
    let gx = unsigned_grid x tx (positive→unsigned x px) in
    let l = 2 ^ 149 in
    let m = gx.q in
    let i = gx.i in
    let m-pos : 0 < m = first_pos m (2 ^ i) (value_pos x (m * 2 ^ i) l px (pow_pos 149) gx.value) in
    let i_lt : i < 277 = gx.least in
    let up = lifted m m-pos gx.small in
    let z-le : lift m ≤ 23 = up.most in
    let w = m * 2 ^ lift m in
    let t = i + (149 - lift m) in
    let h = shifted w t up.lo up.hi (omega arith) in
    let n = wide w t in
    let j = half_exponent t in
    let s = isqrt n in
    let fs : Floor n s = isqrt_floor n in
    let N = m * 2 ^ i in
    let e : N * l ≡ n * (2 ^ j * 2 ^ j) = moved m i (lift m) (omega arith) ∙ h.square in
    let lo : 2 ^ 24 ≤ s = digits_ge n s h.lo fs in
    let hi : s < 2 ^ 25 = small s n fs.0 h.hi in
    let q = s / 2 + s % 2 in
    let A = q * 2 ^ suc j in
    let r = root binary32 x in
    let hu : HasValue (units binary32 false q (suc j)) false A l = units_in q (suc j) (omega arith) (omega arith) in
    let hr : HasValue r false A l = subst (λ (z : Float). HasValue z false A l) (sym (root_is n j s h.lo h.hi h.even fs x (finer x N (n * (2 ^ j * 2 ^ j)) e gx.value))) hu in
    record {
      held = root_fits x tx;
      finite = has→unsigned r A l hr;
      nearest = λ y ty uy.
          let gy = unsigned_grid y ty uy in
          let Y = gy.q * 2 ^ gy.i in
          let both = nearer (num r) (den r) (num y) (den y) (num x) (den x) A Y N (n * (2 ^ j * 2 ^ j)) l (pow_pos 149) (den_pos r) (den_pos y) (den_pos x) (value→cross r A l hr) (value→cross y Y l gy.value) (value→cross x N l gx.value) e (above n j s gy.q gy.i lo h.even fs gy.small) (below n j s gy.q gy.i lo h.even fs gy.small) in
          (λ h. both.0 (lt→cross r y A Y l hr gy.value h), λ h. both.1 (lt→cross y r Y A l gy.value hr h));
    }
