-- What `round` gives has the sign that it was handed. Assumes nothing.
use mathlib.Core.Path.{◌≡◌, refl, sym, subst}
use mathlib.Core.Bool.{Bool, true, false, cond}
use Prim.Native.Nat.{ℕ, zero, suc, ◌+◌, ◌-◌, ◌*◌, ◌/◌, ◌%◌, ◌^◌, compare}
use lib.Dec.{ltb}
use lib.Ieee.{Float, nan, inf, fin, Format, prec, emax, low, size, nearest, odd, units, round}
use lib.Ieee.Fits.{round_is}

-- x is a number or an infinity with the sign s
abbrev pub HasSign : Float → Bool → Type 0
HasSign nan s = ⊥
HasSign (inf t) s = t ≡ s
HasSign (fin t m e) s = t ≡ s

odd_sign : (d : ℕ) (s : Bool) (q k l : ℕ) → HasSign (odd d s q k l) s
unfolding odd
odd_sign d s zero k l = refl
odd_sign d s (suc q) k l = refl

units_sign : (f : Format) (s : Bool) (q k : ℕ) → HasSign (units f s q k) s
unfolding units
units_sign f s q k = go (ltb (q * 2 ^ k) (2 ^ (low f + suc (emax f))))
  where
    go : (b : Bool) → HasSign (cond b (odd (suc (prec f)) s q k (low f)) (inf s)) s
    go true = odd_sign (suc (prec f)) s q k (low f)
    go false = refl

pub round_sign : (f : Format) (s : Bool) (n c : ℕ) → HasSign (round f s n c) s
round_sign f s n c =
    let m = n * 2 ^ low f in
    let k = size (m / c) - prec f in
    let u = c * 2 ^ k in
    subst (λ (x : Float). HasSign x s) (sym (round_is f s n c)) (units_sign f s (nearest (m / u) (compare (m % u * 2) u)) k)
