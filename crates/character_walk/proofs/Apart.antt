-- Two that are 28 or more apart in a coordinate have no distance below 28; and between two ends that are as far on one side all is as far. Assumes nothing.
use mathlib.Core.Path.{◌≡◌, refl, sym, ◌∙◌, subst}
use mathlib.Core.Logic.{inl, inr, ◌⊎◌, ⊎_elim}
use mathlib.Core.Bool.{Bool, true, false}
use Prim.Native.Nat.{ℕ, ◌+◌, ◌*◌, ◌≤◌, ◌<◌}
use native.Mathlib.Nat.{mul-pos, mul-le-mul}
use native.Mathlib.Omega.{arith}
use lib.Dec.{T, lit<}
use lib.Ieee.{Float, nan, inf, fin, binary32, up, down, neg, add, sub, mul, lt, le, of_bits, fits}
use lib.Ieee.Fits.{down_pos, mul-fits}
use Rattle.num_root.specs.Root.{root}
use Rattle.game_constants.specs.Constants.{character_size}
use Rattle.num_vec2.specs.Vec2.{vsub, vdot, vdistance}
use Rattle.num_vec2.specs.declared.vec2.{vec2}
use Rattle.character_walk.proofs.Far.{square, c784, far_28, distance_is}
use Rattle.num_order.proofs.Signed.{gain, le→at-most, loss}
use Rattle.num_order.proofs.Chain.{Between, Number, le_left, le_refl, le_right, le_trans, nan_or, nought}
use Rattle.num_order.proofs.Places.{own_placed, placed_ordered}
use Rattle.num_order.proofs.Sums.{add_swap, sub_mono}
use Rattle.num_order.proofs.Nans.{above_number, minuend}
use Rattle.num_order.proofs.Steps.{grows}
use Rattle.num_order.proofs.Products.{mul_placed, square_up}
use Rattle.num_order.proofs.Vectors.{first_nan, second_nan, squares}

-- ---- 28 or more, or -28 or less
abbrev pub Wide : Float → Type 0
Wide x = T (le character_size x) ⊎ T (le x (neg character_size))

twice : (a c : ℕ) → 28 * c ≤ a → 784 * (c * c) ≤ a * a
twice a c h = omega (arith, mul-le-mul h h)

nought_784 : T (le nought c784)
unfolding le of_bits
nought_784 = tt

wide_size : (s : Bool) (a c : ℕ) → 0 < c → (28 * c + loss s a * 1 ≤ gain s a * 1 + 0 * c) ⊎ (gain s a * 1 + 28 * c ≤ 0 * c + loss s a * 1)
    → 784 * (c * c) + (gain s a * loss s a + loss s a * gain s a) * 1 ≤ (gain s a * gain s a + loss s a * loss s a) * 1 + 0 * (c * c)
wide_size false a c C (inl h) = omega (arith, twice a c (omega arith))
wide_size true a c C (inl h) = absurd (omega arith)
wide_size false a c C (inr h) = absurd (omega arith)
wide_size true a c C (inr h) = omega (arith, twice a c (omega arith))

wide_square : (x : Float) → Wide x → T (le c784 (mul binary32 x x))
unfolding mul le of_bits neg fits
wide_square nan (inl h) = absurd h
wide_square nan (inr h) = absurd h
wide_square (inf true) h = tt
wide_square (inf false) h = tt
wide_square (fin s m e) h =
    placed_ordered (own_placed binary32 c784 tt tt) (mul_placed binary32 (fin s m e) (fin s m e) tt tt) (lit< tt) (mul-pos (down_pos e) (down_pos e))
    (wide_size s (m * up e) (down e) (down_pos e) (⊎_elim (λ k. inl (le→at-most character_size (fin s m e) tt tt k)) (λ k. inr (le→at-most (fin s m e) (neg character_size) tt tt k)) h))

wide_sum : (x y : Float) → Wide x → Number y → T (le c784 (squares x y))
wide_sum x y h a =
    let u = mul binary32 x x in
    let v = mul binary32 y y in
    let k = wide_square x h in
    let z = square_up binary32 y a in
    le_trans c784 u (add binary32 u v) k (grows binary32 u v (mul-fits binary32 x x) (above_number binary32 u v (le_trans nought c784 u nought_784 k) z) z)

-- ---- where a coordinate differs by as much, or by nan, the distance is not below 28
square_nan : (p q : vec2) → square p q ≡ nan → lt (vdistance p q) character_size ≡ false
unfolding lt root
square_nan p q e = subst (λ (d : Float). lt d character_size ≡ false) (distance_is p q) (subst (λ (z : Float). lt (root binary32 z) character_size ≡ false) (sym e) refl)

module _ (p q : vec2) where
  -- the differences of the coordinates
  abbrev dx : Float
  dx = sub binary32 q.x p.x

  abbrev dy : Float
  dy = sub binary32 q.y p.y

  squares_are : square p q ≡ squares dx dy
  unfolding vdot vsub
  squares_are = refl

  nan_x : dx ≡ nan → lt (vdistance p q) character_size ≡ false
  nan_x e = square_nan p q (squares_are ∙ first_nan dx dy e)

  nan_y : dy ≡ nan → lt (vdistance p q) character_size ≡ false
  nan_y e = square_nan p q (squares_are ∙ second_nan dx dy e)

  pub apart_x : (dx ≡ nan) ⊎ Wide dx → lt (vdistance p q) character_size ≡ false
  apart_x (inl e) = nan_x e
  apart_x (inr h) = ⊎_elim nan_y (λ a. far_28 p q (subst (λ (z : Float). T (le c784 z)) (sym squares_are) (wide_sum dx dy h a))) (nan_or dy)

  pub apart_y : (dy ≡ nan) ⊎ Wide dy → lt (vdistance p q) character_size ≡ false
  apart_y (inl e) = nan_y e
  apart_y (inr h) = ⊎_elim nan_x (λ a. far_28 p q (subst (λ (z : Float). T (le c784 z)) (sym squares_are) (turned a))) (nan_or dx)
    where
      turned : Number dx → T (le c784 (squares dx dy))
      turned a =
          let u = mul binary32 dx dx in
          let v = mul binary32 dy dy in
          let k = wide_sum dy dx h a in
          le_trans c784 (add binary32 v u) (add binary32 u v) k (add_swap binary32 v u (le_right c784 (add binary32 v u) k))

-- ---- both ends a and b of a way are as far on one side of q
abbrev pub Aside : Float → Float → Float → Type 0
Aside a b q =
    (T (le character_size (sub binary32 q a)) × T (le character_size (sub binary32 q b)))
    ⊎ (T (le (sub binary32 q a) (neg character_size)) × T (le (sub binary32 q b) (neg character_size)))

-- up to the end b, and from it on
up_to : (p b q : Float) → T (le p b) → T (le character_size (sub binary32 q b)) → (sub binary32 q p ≡ nan) ⊎ Wide (sub binary32 q p)
up_to p b q h k =
    ⊎_elim inl
    (λ n. inr (inl (le_trans character_size (sub binary32 q b) (sub binary32 q p) k (sub_mono binary32 q q b p (le_refl q (minuend binary32 q p n)) h (le_right character_size (sub binary32 q b) k) n))))
    (nan_or (sub binary32 q p))

from_on : (p a q : Float) → T (le a p) → T (le (sub binary32 q a) (neg character_size)) → (sub binary32 q p ≡ nan) ⊎ Wide (sub binary32 q p)
from_on p a q h k =
    ⊎_elim inl
    (λ n. inr (inr (le_trans (sub binary32 q p) (sub binary32 q a) (neg character_size) (sub_mono binary32 q q p a (le_refl q (minuend binary32 q p n)) h n (le_left (sub binary32 q a) (neg character_size) k)) k)))
    (nan_or (sub binary32 q p))

pub aside : (a p b q : Float) → Between a p b → Aside a b q → (sub binary32 q p ≡ nan) ⊎ Wide (sub binary32 q p)
aside a p b q (inl h) (inl k) = up_to p b q h.1 k.1
aside a p b q (inl h) (inr k) = from_on p a q h.0 k.0
aside a p b q (inr h) (inl k) = up_to p a q h.1 k.0
aside a p b q (inr h) (inr k) = from_on p b q h.0 k.1
