-- No two values are the correctly rounded root of one x: `CorrectRoot` says which value `root` is. Assumes nothing.
use mathlib.Core.Path.{◌≡◌, sym, ap, ◌∙◌, subst}
use mathlib.Core.Bool.{true, false}
use Prim.Native.Nat.{ℕ, suc, ◌+◌, ◌*◌, ◌^◌, ◌≤◌, ◌<◌}
use native.Mathlib.Nat.{le_antisymm, lt_of_not-le, le_of_suc-le-suc, mul_comm, mul_right_comm, mul-pos, mul_assoc, add_comm, eq_of_mul-eq-mul_right}
use native.Mathlib.Omega.{arith}
use lib.Dec.{T, lt→ltb}
use lib.Ieee.{Float, nan, inf, fin, binary32, up, down, fits, lt, of_bits}
use lib.Ieee.Bits.{of_bits-to_bits}
use lib.Ieee.Exact.{HasValue}
use lib.Ieee.Positive.{num, den, den_pos, positive, value→cross}
use Rattle.num_root.specs.Root.{root, sq, unsigned, CorrectRoot}
use Rattle.base_binary32.proofs.Patterns.{to_bits_of}
use Rattle.num_root.proofs.Correct.{unsigned_grid, root_correct}

pub cross→lt : (x y : Float) → T (unsigned x) → T (unsigned y) → num x * den y < num y * den x → T (lt x y)
unfolding lt
cross→lt nan y p q h = absurd p
cross→lt (inf s) y p q h = absurd p
cross→lt (fin true m e) y p q h = absurd p
cross→lt (fin false m e) nan p q h = absurd q
cross→lt (fin false m e) (inf s) p q h = absurd q
cross→lt (fin false m e) (fin true n d) p q h = absurd q
cross→lt (fin false m e) (fin false n d) p q h = lt→ltb (m * up e * down d) (n * up d * down e) h

clash : (a b c d : ℕ) → a < b → c < d → a ≡ d → b ≡ c → ⊥
clash a b c d p q e f = omega arith

apart : (x r t : Float) → CorrectRoot binary32 x r → CorrectRoot binary32 x t → T (lt r t) → ⊥
apart x r t p q h =
    let s : sq (num r * den t + num t * den r) * den x ≡ sq (num t * den r + num r * den t) * den x = ap (λ (k : ℕ). sq k * den x) (add_comm (num r * den t) (num t * den r)) in
    let d : num x * 4 * sq (den r * den t) ≡ num x * 4 * sq (den t * den r) = ap (λ (k : ℕ). num x * 4 * sq k) (mul_comm (den r) (den t)) in
    clash (num x * 4 * sq (den r * den t)) (sq (num r * den t + num t * den r) * den x) (sq (num t * den r + num r * den t) * den x) (num x * 4 * sq (den t * den r)) ((p.nearest t q.held q.finite).0 h) ((q.nearest r p.held p.finite).1 h) d s

not_lt : (a b : ℕ) → (a < b → ⊥) → b ≤ a
not_lt a b f = le_of_suc-le-suc (lt_of_not-le (λ (g : suc a ≤ b). f g))

-- two values that fit, with the same fraction, are the same
same : (r t : Float) → T (fits binary32 r) → T (fits binary32 t) → T (unsigned r) → T (unsigned t) → num r * den t ≡ num t * den r → r ≡ t
same r t p q u v e =
    let g = unsigned_grid r p u in
    let k = unsigned_grid t q v in
    let a = g.q * 2 ^ g.i in
    let b = k.q * 2 ^ k.i in
    let l = 2 ^ 149 in
    let x : num r * l ≡ a * den r = value→cross r a l g.value in
    let y : num t * l ≡ b * den t = value→cross t b l k.value in
    let n : a ≡ b =
    eq_of_mul-eq-mul_right (den r * den t) (mul-pos (den_pos r) (den_pos t)) a b
    (sym (ap (λ (z : ℕ). z * den t) x ∙ mul_assoc a (den r) (den t)) ∙ mul_right_comm (num r) l (den t) ∙ ap (λ (z : ℕ). z * l) e ∙ mul_right_comm (num t) (den r) l ∙ ap (λ (z : ℕ). z * den r) y ∙ mul_assoc b (den t) (den r) ∙ ap (λ (z : ℕ). b * z) (mul_comm (den t) (den r))) in
    sym (of_bits-to_bits binary32 r p) ∙ ap (of_bits binary32) (to_bits_of r a g.value ∙ sym (to_bits_of t a (subst (λ (z : ℕ). HasValue t false z l) (sym n) k.value))) ∙ of_bits-to_bits binary32 t q

pub correct_unique : (x r t : Float) → CorrectRoot binary32 x r → CorrectRoot binary32 x t → r ≡ t
correct_unique x r t p q =
    same r t p.held q.held p.finite q.finite
    (le_antisymm (not_lt (num t * den r) (num r * den t) (λ h. apart x t r q p (cross→lt t r q.finite p.finite h)))
    (not_lt (num r * den t) (num t * den r) (λ h. apart x r t p q (cross→lt r t p.finite q.finite h))))

-- so for x above zero, to be the correctly rounded root and to be `root x` are one
pub correct_is_root : (x r : Float) → T (fits binary32 x) → T (positive x) → CorrectRoot binary32 x r → r ≡ root binary32 x
correct_is_root x r t p c = correct_unique x r (root binary32 x) c (root_correct x t p)
