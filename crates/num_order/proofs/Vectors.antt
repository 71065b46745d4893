-- Vectors: both coordinates are values of the format; a distance is nan or not below zero. Assumes nothing.
use mathlib.Core.Path.{◌≡◌, ap, ◌∙◌}
use mathlib.Core.Logic.{inl, inr, ◌⊎◌, ⊎_elim}
use lib.Dec.{T}
use lib.Ieee.{Float, nan, binary32, add, sub, mul, le, fits}
use lib.Ieee.Fits.{add-fits, mul-fits}
use Rattle.num_root.specs.Root.{root}
use Rattle.num_root.proofs.Rooted.{root_fits}
use Rattle.num_root.proofs.Monotone.{root_mono}
use Rattle.num_vec2.specs.Vec2.{vsub, vlength, vdistance}
use Rattle.num_vec2.specs.declared.vec2.{vec2}
use Rattle.num_order.proofs.Chain.{Number, le_trans, nan_or, nought}
use Rattle.num_order.proofs.Nans.{above_number, add_nan}
use Rattle.num_order.proofs.Steps.{grows}
use Rattle.num_order.proofs.Products.{nought_fits, square_up}

-- both coordinates are values of the format
abbrev pub FitsPair : vec2 → Type 0
FitsPair v = T (fits binary32 v.x) × T (fits binary32 v.y)

-- ---- the sum of two squares is nan where a summand is, else not below zero
abbrev pub squares : Float → Float → Float
squares x y = add binary32 (mul binary32 x x) (mul binary32 y y)

pub first_nan : (x y : Float) → x ≡ nan → squares x y ≡ nan
unfolding add mul
first_nan x y e = ap (λ (z : Float). squares z y) e

pub second_nan : (x y : Float) → y ≡ nan → squares x y ≡ nan
unfolding mul
second_nan x y e = ap (λ (z : Float). squares x z) e ∙ add_nan binary32 (mul binary32 x x)

squares_up : (x y : Float) → Number x → Number y → T (le nought (squares x y))
squares_up x y a b =
    let u = mul binary32 x x in
    let v = mul binary32 y y in
    let h = square_up binary32 x a in
    let k = square_up binary32 y b in
    le_trans nought u (add binary32 u v) h (grows binary32 u v (mul-fits binary32 x x) (above_number binary32 u v h k) k)

-- ---- and so is its root, a distance
root_up : (z : Float) → T (fits binary32 z) → T (le nought z) → T (le nought (root binary32 z))
unfolding root le
root_up z t h = root_mono nought z (nought_fits binary32) t tt h

root_nan : (z : Float) → z ≡ nan → root binary32 z ≡ nan
unfolding root
root_nan z e = ap (root binary32) e

length_up : (x y : Float) → (root binary32 (squares x y) ≡ nan) ⊎ T (le nought (root binary32 (squares x y)))
length_up x y =
    ⊎_elim (λ e. inl (root_nan (squares x y) (first_nan x y e)))
    (λ a.
    ⊎_elim (λ e. inl (root_nan (squares x y) (second_nan x y e)))
    (λ b. inr (root_up (squares x y) (add-fits binary32 (mul binary32 x x) (mul binary32 y y)) (squares_up x y a b))) (nan_or y))
    (nan_or x)

pub distance_up : (p q : vec2) → (vdistance p q ≡ nan) ⊎ T (le nought (vdistance p q))
unfolding vdistance vlength vsub
distance_up p q = length_up (sub binary32 q.x p.x) (sub binary32 q.y p.y)

pub distance_fits : (p q : vec2) → T (fits binary32 (vdistance p q))
unfolding vdistance vlength vsub
distance_fits p q =
    let x = sub binary32 q.x p.x in
    let y = sub binary32 q.y p.y in
    root_fits (squares x y) (add-fits binary32 (mul binary32 x x) (mul binary32 y y))
