-- The nearest whole number is within 1/2 below 2 ^ 30, and the nearest 256th within 1/512 below 2 ^ 22. Assumes nothing.
use Rattle.std.proofs.Common.{◌≡◌, ℕ, zero, suc, ◌+◌, ◌-◌, ◌*◌, ◌%◌, ◌^◌, ◌<◌, ◌≤◌, Bool, true, false, cond, not, T, ltb, pos, negsuc, ◌-ℤ◌, ◌*ℤ◌, nat_abs, sym, refl, ap, ◌∙◌, lt_of_lt_of_le, mod-lt, mul_assoc, div-lt_iff_lt-mul, mul-lt-mul_of_pos_right, mul-pos, div-add-mod', zero-mul, mul-one, mul_right_comm, arith, lit<, ltb→lt, nltb→le, pow_pos}
use lib.IntN.{sub_ℕ}
use lib.Ieee.{Float, nan, inf, fin, binary32, up, down, fits, mul}
use lib.Ieee.Fits.{down_pos}
use Rattle.num_convert.specs.Whole.{cut, signed, whole_of, round_to_i32}
use Rattle.num_convert.specs.Convert.{c256, to256ths}
use Rattle.num_convert.specs.Near.{Below, with_sign, WithinHalf}
use Rattle.base_binary32.proofs.Grid.{on_grid, units_lt, exponent_lt}
use Rattle.num_convert.proofs.Scaled.{eight_more, mul256}
use Rattle.num_convert.proofs.Cut.{cut_same}
use Rattle.num_convert.proofs.Ranges.{at_value, signed_in}

-- ---- a / c and the whole number that it is cut to after a half
over : (a c q r : ℕ) → q * (c * 2) + r ≡ a * 2 + 1 * c → r < c * 2 → (q * (c * 2) ≤ a * 2 + c) × (a * 2 ≤ q * (c * 2) + c)
over a c q r e h = omega arith

half_away : (a c : ℕ) → 0 < c → (cut 1 a c * (c * 2) ≤ a * 2 + c) × (a * 2 ≤ cut 1 a c * (c * 2) + c)
half_away a c C = over a c (cut 1 a c) ((a * 2 + 1 * c) % (c * 2)) (div-add-mod' (a * 2 + 1 * c) (c * 2)) (mod-lt (a * 2 + 1 * c) (mul-pos C (lit< tt)))

cut_lt : (a c : ℕ) → 0 < c → a < 2 ^ 30 * c → cut 1 a c < 2 ^ 31
cut_lt a c C h = (div-lt_iff_lt-mul (mul-pos C (lit< tt))).1 (room a c (2 ^ 30 * c) (2 ^ 31 * (c * 2)) h (omega arith) (omega arith))
  where
    room : (a c p q : ℕ) → a < p → p * 4 ≡ q → c ≤ p → a * 2 + 1 * c < q
    room a c p q x y z = omega arith

-- ---- distances of whole numbers
sub-near : (a b c : ℕ) → a * 2 ≤ b * 2 + c → b * 2 ≤ a * 2 + c → nat_abs (sub_ℕ a b) * 2 ≤ c
sub-near a b c h k = go (ltb a b) (ltb→lt a b) (nltb→le a b)
  where
    go : (t : Bool) → (T t → a < b) → (T (not t) → b ≤ a) → nat_abs (cond t (negsuc (b - suc a)) (pos (a - b))) * 2 ≤ c
    go true p q = omega (arith, p tt)
    go false p q = omega (arith, q tt)

near : (s : Bool) (a b c : ℕ) → a * 2 ≤ b * 2 + c → b * 2 ≤ a * 2 + c → nat_abs (with_sign s a -ℤ with_sign s b) * 2 ≤ c
near false a zero c h k = omega arith
near false a (suc b) c h k = sub-near a (suc b) c h k
near true zero zero c h k = omega arith
near true zero (suc b) c h k = omega arith
near true (suc a) zero c h k = sub-near 0 (suc a) c k h
near true (suc a) (suc b) c h k = sub-near (suc b) (suc a) c k h

sign_mul : (s : Bool) (q c : ℕ) → with_sign s q *ℤ pos c ≡ with_sign s (q * c)
sign_mul false q c = refl
sign_mul true zero c = rw (zero-mul c)
sign_mul true (suc q) c = refl

-- with the sign s, the whole number nearest to a / c is within half of it
cut-near : (s : Bool) (a c : ℕ) → 0 < c → nat_abs (with_sign s a -ℤ with_sign s (cut 1 a c) *ℤ pos c) * 2 ≤ c
cut-near s a c C =
    let q = cut 1 a c in
    let w = half_away a c C in
    let e : q * (c * 2) ≡ q * c * 2 = sym (mul_assoc q c 2) in
    rw (sign_mul s q c) (near s a (q * c) c (omega arith) (omega arith))

-- ---- the laws
pub round-near : (x : Float) → Below 30 x → WithinHalf 1 (round_to_i32 x) x
unfolding Below WithinHalf whole_of
round-near nan h = absurd h
round-near (inf s) h = absurd h
round-near (fin s m g) h =
    let a = m * up g in
    let c = down g in
    rw (signed_in s (cut 1 a c) (cut_lt a c (down_pos g) h), mul-one) (cut-near s a c (down_pos g))

pub 256ths_near : (v : Float) → T (fits binary32 v) → Below 22 v → WithinHalf 256 (to256ths v) v
unfolding Below WithinHalf to256ths
256ths_near nan t h = absurd h
256ths_near (inf s) t h = absurd h
256ths_near (fin s m g) t h =
    let y = on_grid s m g t in
    let n = y.q * 2 ^ y.i in
    let c = down g in
    let l : n < 2 ^ 22 * 2 ^ 149 = units_lt s m g n 22 y.value h in
    let k = exponent_lt y.q y.i 171 y.lead (lit< tt) l in
    let v = mul256 (fin s m g) s y.q y.i y.value y.small (omega (arith, k)) in
    let e : m * up g * 256 * 2 ^ 149 ≡ y.q * 2 ^ (y.i + 8) * c = mul_right_comm (m * up g) 256 (2 ^ 149) ∙ ap (λ (x : ℕ). x * 256) y.value.1 ∙ mul_right_comm n c 256 ∙ ap (λ (x : ℕ). x * c) (eight_more y.q y.i) in
    let b : m * up g * 256 < 2 ^ 30 * c = lt_of_lt_of_le (mul-lt-mul_of_pos_right h (lit< {m = 0} {n = 256} tt)) (omega arith) in
    let z : round_to_i32 (mul binary32 (fin s m g) c256) ≡ with_sign s (cut 1 (m * up g * 256) c) =
    at_value 1 (mul binary32 (fin s m g) c256) s (y.q * 2 ^ (y.i + 8)) v ∙ ap (signed 31 s) (sym (cut_same 1 (m * up g * 256) c (y.q * 2 ^ (y.i + 8)) (2 ^ 149) (down_pos g) (pow_pos 149) e)) ∙ signed_in s (cut 1 (m * up g * 256) c) (cut_lt (m * up g * 256) c (down_pos g) b) in
    rw z (cut-near s (m * up g * 256) c (down_pos g))
