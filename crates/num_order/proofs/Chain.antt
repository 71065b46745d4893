-- The order of all values but nan: the infinities are its ends, it is reflexive, transitive and total, and `neg` turns it round. Assumes nothing.
use mathlib.Core.Path.{◌≡◌, refl}
use mathlib.Core.Logic.{inl, inr, ◌⊎◌}
use mathlib.Core.Bool.{Bool, true, false, not, true≢false}
use Prim.Native.Nat.{ℕ, ◌+◌, ◌*◌, ◌≤◌, ◌<◌}
use native.Mathlib.Nat.{le_of_mul-le-mul_right, mul-le-mul_right}
use native.Mathlib.Omega.{arith}
use lib.Dec.{T}
use lib.IntN.{pos}
use lib.Ieee.{Float, nan, inf, fin, up, down, neg, below, lt, le, is_nan}
use lib.Ieee.Fits.{down_pos}
use lib.Ieee.Scale.{finite}
use borrow.Author.Tests.{ltb-false}
use Rattle.num_order.proofs.Signed.{at-most→le, gain, le→at-most, loss}

-- a number or an infinity
abbrev pub Number : Float → Type 0
Number x = T (not (is_nan x))

pub nan_or : (x : Float) → (x ≡ nan) ⊎ Number x
unfolding is_nan
nan_or nan = inl refl
nan_or (inf s) = inr tt
nan_or (fin s m e) = inr tt

pub finite_number : (x : Float) → T (finite x) → Number x
unfolding is_nan
finite_number nan p = p
finite_number (inf s) p = tt
finite_number (fin s m e) p = tt

-- +0, to which -0 is equal
abbrev pub nought : Float
nought = fin false 0 (pos 0)

pub least : (x : Float) → Number x → T (le (inf true) x)
unfolding le is_nan
least nan p = absurd p
least (inf true) p = tt
least (inf false) p = tt
least (fin s m e) p = tt

pub most : (x : Float) → Number x → T (le x (inf false))
unfolding le is_nan
most nan p = absurd p
most (inf true) p = tt
most (inf false) p = tt
most (fin s m e) p = tt

-- what compares is no nan
pub le_left : (x y : Float) → T (le x y) → Number x
unfolding le is_nan
le_left nan y h = absurd h
le_left (inf s) y h = tt
le_left (fin s m e) y h = tt

pub le_right : (x y : Float) → T (le x y) → Number y
unfolding le is_nan
le_right nan nan h = absurd h
le_right (inf s) nan h = absurd h
le_right (fin s m e) nan h = absurd h
le_right x (inf t) h = tt
le_right x (fin t n d) h = tt

pub le_refl : (x : Float) → Number x → T (le x x)
unfolding le is_nan
le_refl nan p = absurd p
le_refl (inf true) p = tt
le_refl (inf false) p = tt
le_refl (fin s m e) p = at-most→le (fin s m e) (fin s m e) tt tt (omega arith)

-- through b - v over d
through : (a u c b v d g w k : ℕ) → 0 < d → a * d + v * c ≤ b * c + u * d → b * k + w * d ≤ g * d + v * k → a * k + w * c ≤ g * c + u * k
through a u c b v d g w k D h l =
    let q : (a * k + w * c) * d ≤ (g * c + u * k) * d = omega (arith, mul-le-mul_right k h, mul-le-mul_right c l) in
    le_of_mul-le-mul_right q D

pub le_trans : (x y z : Float) → T (le x y) → T (le y z) → T (le x z)
unfolding le
le_trans nan y z h k = absurd h
le_trans (inf true) y z h k = least z (le_right y z k)
le_trans (inf false) nan z h k = absurd h
le_trans (inf false) (inf true) z h k = absurd h
le_trans (inf false) (inf false) z h k = k
le_trans (inf false) (fin t n d) z h k = absurd h
le_trans (fin s m e) nan z h k = absurd h
le_trans (fin s m e) (inf true) z h k = absurd h
le_trans (fin s m e) (inf false) nan h k = absurd k
le_trans (fin s m e) (inf false) (inf true) h k = absurd k
le_trans (fin s m e) (inf false) (inf false) h k = tt
le_trans (fin s m e) (inf false) (fin r i j) h k = absurd k
le_trans (fin s m e) (fin t n d) nan h k = absurd k
le_trans (fin s m e) (fin t n d) (inf true) h k = absurd k
le_trans (fin s m e) (fin t n d) (inf false) h k = tt
le_trans (fin s m e) (fin t n d) (fin r i j) h k =
    at-most→le (fin s m e) (fin r i j) tt tt
    (through (gain s (m * up e)) (loss s (m * up e)) (down e) (gain t (n * up d)) (loss t (n * up d)) (down d) (gain r (i * up j)) (loss r (i * up j)) (down j) (down_pos d)
    (le→at-most (fin s m e) (fin t n d) tt tt h) (le→at-most (fin t n d) (fin r i j) tt tt k))

-- ---- of two numbers one is at least the other
crossed : (s t : Bool) (a c b d : ℕ) → below s (a * d) t (b * c) ≡ false → gain t b * c + loss s a * d ≤ gain s a * d + loss t b * c
crossed true true a c b d h = omega (arith, ltb-false (b * c) (a * d) h)
crossed true false a c b d h = omega (arith, ltb-false 0 (a * d + b * c) h)
crossed false true a c b d h = omega arith
crossed false false a c b d h = omega (arith, ltb-false (a * d) (b * c) h)

pub at_least : (x y : Float) → Number x → Number y → lt x y ≡ false → T (le y x)
unfolding lt le is_nan
at_least nan y a b h = absurd a
at_least (inf s) nan a b h = absurd b
at_least (inf true) (inf true) a b h = tt
at_least (inf true) (inf false) a b h = absurd (true≢false h)
at_least (inf true) (fin t n d) a b h = absurd (true≢false h)
at_least (inf false) (inf t) a b h = most (inf t) tt
at_least (inf false) (fin t n d) a b h = tt
at_least (fin s m e) nan a b h = absurd b
at_least (fin s m e) (inf true) a b h = tt
at_least (fin s m e) (inf false) a b h = absurd (true≢false h)
at_least (fin s m e) (fin t n d) a b h = at-most→le (fin t n d) (fin s m e) tt tt (crossed s t (m * up e) (down e) (n * up d) (down d) h)

-- ---- `neg`
turned : (s t : Bool) (a b c d : ℕ) → gain s a * d + loss t b * c ≤ gain t b * c + loss s a * d → gain (not t) b * c + loss (not s) a * d ≤ gain (not s) a * d + loss (not t) b * c
turned true true a b c d h = omega arith
turned true false a b c d h = omega arith
turned false true a b c d h = omega arith
turned false false a b c d h = omega arith

pub neg_anti : (x y : Float) → T (le x y) → T (le (neg y) (neg x))
unfolding le neg
neg_anti nan y h = absurd h
neg_anti (inf true) nan h = absurd h
neg_anti (inf true) (inf true) h = tt
neg_anti (inf true) (inf false) h = tt
neg_anti (inf true) (fin t n d) h = tt
neg_anti (inf false) nan h = absurd h
neg_anti (inf false) (inf true) h = absurd h
neg_anti (inf false) (inf false) h = tt
neg_anti (inf false) (fin t n d) h = absurd h
neg_anti (fin s m e) nan h = absurd h
neg_anti (fin s m e) (inf true) h = absurd h
neg_anti (fin s m e) (inf false) h = tt
neg_anti (fin s m e) (fin t n d) h =
    at-most→le (fin (not t) n d) (fin (not s) m e) tt tt (turned s t (m * up e) (n * up d) (down e) (down d) (le→at-most (fin s m e) (fin t n d) tt tt h))

pub neg_le : (x : Float) → T (le nought x) → T (le (neg x) x)
unfolding neg le
neg_le x h = le_trans (neg x) (neg nought) x (neg_anti nought x h) (le_trans (neg nought) nought x tt h)

-- ---- on which side of zero
pub side : (x : Float) → Number x → T (le nought x) ⊎ T (le x nought)
unfolding le is_nan
side nan p = absurd p
side (inf true) p = inr tt
side (inf false) p = inl tt
side (fin true m e) p = inr (at-most→le (fin true m e) nought tt tt (omega arith))
side (fin false m e) p = inl (at-most→le nought (fin false m e) tt tt (omega arith))

-- ---- z lies between a and b, whichever is the less
abbrev pub Between : Float → Float → Float → Type 0
Between a z b = (T (le a z) × T (le z b)) ⊎ (T (le b z) × T (le z a))
