-- Where a value stands among the rounded fractions: `Placed f z p n c`, z is (p - n) / c rounded to f. So placed values are in the order of their fractions. Assumes nothing.
use mathlib.Core.Path.{◌≡◌, refl, ap}
use mathlib.Core.Bool.{Bool}
use Prim.Native.Nat.{ℕ, ◌+◌, ◌*◌, ◌≤◌, ◌<◌}
use native.Mathlib.Omega.{arith}
use lib.Dec.{T}
use lib.Ieee.{Float, nan, inf, fin, Format, up, down, round, le, fits, is_nan}
use lib.Ieee.Fits.{down_pos}
use lib.Ieee.Scale.{finite}
use lib.Ieee.Positive.{den}
use Rattle.base_binary32.proofs.Sign.{HasSign, round_sign}
use Rattle.num_order.proofs.Signed.{gain, loss, over, under}
use Rattle.num_order.proofs.Chain.{Number, le_refl, le_trans}
use Rattle.num_order.proofs.Rounded.{own_value, round_ordered, values_ordered}

pub record Placed (f : Format) (z : Float) (p n c : ℕ) : Type 0 where
  pub sign : Bool
  pub size : ℕ
  pub from : T (le z (round f sign size c))
  pub to : T (le (round f sign size c) z)
  pub balance : gain sign size + n ≡ loss sign size + p

signed : (x : Float) (s : Bool) → HasSign x s → Number x
unfolding is_nan
signed nan s h = absurd h
signed (inf t) s h = tt
signed (fin t m e) s h = tt

-- what `round` gives is a number or an infinity
pub round_number : (f : Format) (s : Bool) (a c : ℕ) → Number (round f s a c)
round_number f s a c = signed (round f s a c) s (round_sign f s a c)

pub round_placed : (f : Format) (s : Bool) (a p n c : ℕ) → gain s a + n ≡ loss s a + p → Placed f (round f s a c) p n c
round_placed f s a p n c b =
    let r = le_refl (round f s a c) (round_number f s a c) in
    record { sign = s; size = a; from = r; to = r; balance = b }

-- the same fraction in other words
pub moved : {f : Format} {z : Float} {p n c p' n' : ℕ} → Placed f z p n c → p ≡ p' → n ≡ n' → Placed f z p' n' c
moved h a b = record { sign = h.sign; size = h.size; from = h.from; to = h.to; balance = omega (arith, h.balance) }

parts : (s : Bool) (a : ℕ) → gain s a + loss s a ≡ loss s a + gain s a
parts s a = omega arith

-- a value of the format is its own fraction
pub own_placed : (f : Format) (x : Float) → T (fits f x) → T (finite x) → Placed f x (over x) (under x) (den x)
own_placed f nan t p = absurd p
own_placed f (inf s) t p = absurd p
own_placed f (fin s m e) t p =
    let v = own_value f s m e t in
    record {
      sign = s;
      size = m * up e;
      from = values_ordered (fin s m e) s (m * up e) (down e) (round f s (m * up e) (down e)) s (m * up e) (down e) (down_pos e) (down_pos e) (refl, refl) v (omega arith);
      to = values_ordered (round f s (m * up e) (down e)) s (m * up e) (down e) (fin s m e) s (m * up e) (down e) (down_pos e) (down_pos e) v (refl, refl) (omega arith);
      balance = parts s (m * up e);
    }

crossed : (g l p n c g' l' p' n' c' : ℕ) → g + n ≡ l + p → g' + n' ≡ l' + p' → p * c' + n' * c ≤ p' * c + n * c' → g * c' + l' * c ≤ g' * c + l * c'
crossed g l p n c g' l' p' n' c' h k o = omega (arith, ap (λ (i : ℕ). i * c') h, ap (λ (i : ℕ). i * c) k)

pub placed_ordered : {f : Format} {x y : Float} {p n c p' n' c' : ℕ} → Placed f x p n c → Placed f y p' n' c' → 0 < c → 0 < c' → p * c' + n' * c ≤ p' * c + n * c' → T (le x y)
placed_ordered {f} {x} {y} {p} {n} {c} {p'} {n'} {c'} h k C C' o =
    le_trans x (round f h.sign h.size c) y h.from
    (le_trans (round f h.sign h.size c) (round f k.sign k.size c') y
    (round_ordered f h.sign h.size c k.sign k.size c' C C'
    (crossed (gain h.sign h.size) (loss h.sign h.size) p n c (gain k.sign k.size) (loss k.sign k.size) p' n' c' h.balance k.balance o)) k.to)
