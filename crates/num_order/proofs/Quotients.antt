-- A quotient by what is no less lies from 0 to 1. Assumes nothing.
use mathlib.Core.Path.{◌≡◌, refl, sym, ap, subst}
use mathlib.Core.Logic.{inl, inr}
use mathlib.Core.Bool.{Bool, true, false, cond}
use Prim.Native.Nat.{ℕ, ◌*◌, ◌<◌}
use native.Mathlib.Nat.{eq-zero-or-pos, mul-pos}
use native.Mathlib.Omega.{arith}
use lib.Dec.{T, eqb, eqb→eq, lit<}
use lib.IntN.{ℤ}
use lib.Ieee.{Float, nan, inf, fin, Format, unlike, up, down, round, div, le, is_nan}
use lib.Ieee.Fits.{up_pos, down_pos, eq→eqb}
use Rattle.num_order.proofs.Signed.{at-most→le, first_zero, gain, le→at-most, loss}
use Rattle.num_order.proofs.Chain.{Number, le_trans, nought}
use Rattle.num_order.proofs.Places.{Placed, own_placed, placed_ordered, round_placed}
use Rattle.num_order.proofs.Products.{one, Factor, nought_fits, one_fits, none_under, none_over}

-- x / y for a y that is finite and not below zero
pub div_placed : (f : Format) (s : Bool) (a c b d : ℕ) → Placed f (round f (unlike s false) (a * d) (b * c)) (gain s a * d) (loss s a * d) (b * c)
div_placed f true a c b d = round_placed f true (a * d) (0 * d) (a * d) (b * c) (omega arith)
div_placed f false a c b d = round_placed f false (a * d) (a * d) (0 * d) (b * c) (omega arith)

-- what is from zero to zero is zero
vanishes : (s : Bool) (m : ℕ) (e : ℤ) (t : Bool) (n : ℕ) (d : ℤ) → T (le nought (fin s m e)) → T (le (fin s m e) (fin t n d)) → n ≡ 0 → m ≡ 0
vanishes s m e t n d z h N =
    let y : T (le (fin s m e) nought) = le_trans (fin s m e) (fin t n d) nought h (zero-le t) in
    first_zero m (up e) (up_pos e) (parts s (m * up e) (none_over (fin s m e) tt y) (none_under (fin s m e) tt z))
  where
    parts : (r : Bool) (a : ℕ) → gain r a ≡ 0 → loss r a ≡ 0 → a ≡ 0
    parts true a p q = q
    parts false a p q = p

    zero-le : (r : Bool) → T (le (fin r n d) nought)
    zero-le true = at-most→le (fin true n d) nought tt tt (omega arith)
    zero-le false = at-most→le (fin false n d) nought tt tt (omega (arith, ap (λ (i : ℕ). i * up d) N))

pub div_factor : (f : Format) (x y : Float) → T (le nought x) → T (le x y) → Number (div f x y) → Factor (div f x y)
unfolding le div is_nan
div_factor f nan y z h a = absurd z
div_factor f (inf true) y z h a = absurd z
div_factor f (inf false) nan z h a = absurd a
div_factor f (inf false) (inf t) z h a = absurd a
div_factor f (inf false) (fin t n d) z h a = absurd h
div_factor f (fin s m e) nan z h a = absurd h
div_factor f (fin s m e) (inf true) z h a = absurd h
div_factor f (fin true m e) (inf false) z h a = record { from = tt; to = tt }
div_factor f (fin false m e) (inf false) z h a = record { from = tt; to = tt }
div_factor f (fin s m e) (fin t n d) z h a = go (eqb n 0) (eqb→eq n 0) (λ q. eq→eqb {a = n} {b = 0} q) a
  where
    z' : T (le nought (fin t n d))
    z' = le_trans nought (fin s m e) (fin t n d) z h

    go : (b : Bool) → (T b → n ≡ 0) → (n ≡ 0 → T b) → Number (cond b (cond (eqb m 0) nan (inf (unlike s t))) (round f (unlike s t) (m * up e * down d) (n * up d * down e))) → Factor (cond b (cond (eqb m 0) nan (inf (unlike s t))) (round f (unlike s t) (m * up e * down d) (n * up d * down e)))
    go true p q a = absurd (zero (eqb m 0) (eq→eqb {a = m} {b = 0} (vanishes s m e t n d z h (p tt))) a)
      where
        zero : (c : Bool) → T c → Number (cond c nan (inf (unlike s t))) → ⊥
        zero true g a = a
        zero false g a = g
    go false p q a = at t refl
      where
        at : (r : Bool) → t ≡ r → Factor (round f (unlike s t) (m * up e * down d) (n * up d * down e))
        at true g = absurd (q (first_zero n (up d) (up_pos d) (none_under (fin true n d) tt (subst (λ (r : Bool). T (le nought (fin r n d))) g z'))))
        at false g =
            let w = div_placed f s (m * up e) (down e) (n * up d) (down d) in
            let N : 0 < n = elim (eq-zero-or-pos n) [ inl i ↦ absurd (q i) | inr i ↦ i ] in
            let c = mul-pos (mul-pos N (up_pos d)) (down_pos e) in
            let u = none_under (fin s m e) tt z in
            let l = le→at-most (fin s m e) (fin false n d) tt tt (subst (λ (r : Bool). T (le (fin s m e) (fin r n d))) g h) in
            subst (λ (r : Bool). Factor (round f (unlike s r) (m * up e * down d) (n * up d * down e))) (sym g)
            (record {
              from = placed_ordered (own_placed f nought (nought_fits f) tt) w (lit< tt) c (omega (arith, ap (λ (i : ℕ). i * down d) u));
              to = placed_ordered w (own_placed f one (one_fits f) tt) c (lit< tt) (omega (arith, ap (λ (i : ℕ). i * down d) u));
            })
