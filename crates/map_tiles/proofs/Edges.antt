-- The tile of a coordinate goes up with the coordinate, so the tiles of a box's edges are bounded by those of its ends; and where all tiles between are not of a kind, no corner is. Assumes nothing.
use mathlib.Core.Path.{◌≡◌, ◌∙◌}
use mathlib.Core.Bool.{Bool, true, false, ◌||◌}
use mathlib.Core.List.{List}
use Prim.Native.Nat.{ℕ, zero, suc, ◌-◌, ◌*◌, ◌^◌, ◌≤◌, ◌<◌, min, zero-le}
use native.Mathlib.Nat.{div-eq_of_lt, le_trans}
use native.Mathlib.Omega.{arith}
use lib.Dec.{T}
use lib.IntN.{pos, neg_ℤ}
use lib.Ieee.{Float, nan, inf, fin, binary32, up, down, neg, add, sub, le}
use lib.Ieee.Fits.{down_pos}
use lib.Ieee.Scale.{finite}
use Rattle.num_convert.specs.Whole.{cut, whole_of}
use Rattle.num_vec2.specs.declared.vec2.{vec2}
use Rattle.num_vec2.specs.Vec2.{vmul}
use Rattle.num_order.proofs.Signed.{first_zero, le→at-most}
use Rattle.num_order.proofs.Chain.{Number, finite_number, le_left, le_refl, le_right, neg_le, nought}
use Rattle.num_order.proofs.Sums.{add_mono, sub_mono}
use Rattle.num_order.proofs.Nans.{add_number, sub_number}
use Rattle.map_corners.specs.Tile.{tile_of, tile_at}
use Rattle.map_corners.proofs.Reach.{cut_mono}
use Rattle.map_tiles.specs.declared.point.Tile.{Tile}
use Rattle.map_tiles.specs.declared.tiles.Sides.{Sides}
use Rattle.map_tiles.specs.Map.{tile_in}
use Rattle.map_tiles.specs.Box.{half, any_corner, corner_tiles}
use Rattle.map_tiles.proofs.Corners.{box_tiles}

-- ---- the tile of a whole number
cut-nothing : (a c : ℕ) → 0 < c → a ≡ 0 → cut 1 a c ≡ 0
cut-nothing a c C h = div-eq_of_lt (omega arith)

tile_nothing : (w k : ℕ) → k ≡ 0 → tile_of w (pos k) ≤ 0
unfolding tile_of
tile_nothing w k h = omega arith

tile_negative : (w k : ℕ) (z : ℕ) → tile_of w (neg_ℤ (pos k)) ≤ z
unfolding tile_of
tile_negative w zero z = omega arith
tile_negative w (suc k) z = zero-le

tile_positive : (w a b : ℕ) → a ≤ b → tile_of w (pos a) ≤ tile_of w (pos b)
unfolding tile_of
tile_positive w a b h = omega arith

-- ---- the tile of a coordinate
pub tile_mono : (w : ℕ) (x y : Float) → T (le x y) → tile_at w x ≤ tile_at w y
unfolding le whole_of tile_at
tile_mono w nan y h = absurd h
tile_mono w (inf true) y h = tile_negative w (2 ^ 31) (tile_at w y)
tile_mono w (inf false) nan h = absurd h
tile_mono w (inf false) (inf true) h = absurd h
tile_mono w (inf false) (inf false) h = tile_positive w (2 ^ 31 - 1) (2 ^ 31 - 1) (omega arith)
tile_mono w (inf false) (fin t n d) h = absurd h
tile_mono w (fin true m e) y h = tile_negative w (min (cut 1 (m * up e) (down e)) (2 ^ 31)) (tile_at w y)
tile_mono w (fin false m e) nan h = absurd h
tile_mono w (fin false m e) (inf true) h = absurd h
tile_mono w (fin false m e) (inf false) h = tile_positive w (min (cut 1 (m * up e) (down e)) (2 ^ 31 - 1)) (2 ^ 31 - 1) (omega arith)
tile_mono w (fin false m e) (fin true n d) h =
    let a : m * up e * down d ≤ 0 = omega (arith, le→at-most (fin false m e) (fin true n d) tt tt h) in
    let c = cut-nothing (m * up e) (down e) (down_pos e) (first_zero (m * up e) (down d) (down_pos d) (omega arith)) in
    le_trans (tile_nothing w (min (cut 1 (m * up e) (down e)) (2 ^ 31 - 1)) (omega arith)) zero-le
tile_mono w (fin false m e) (fin false n d) h =
    let c = cut_mono (m * up e) (down e) (n * up d) (down d) (down_pos e) (down_pos d) (omega (arith, le→at-most (fin false m e) (fin false n d) tt tt h)) in
    tile_positive w (min (cut 1 (m * up e) (down e)) (2 ^ 31 - 1)) (min (cut 1 (n * up d) (down d)) (2 ^ 31 - 1)) (omega arith)

-- and those of the edges, h to either side of it
module _ (w : ℕ) (x y h : Float) (l : T (le x y)) (q : T (finite h)) where
  h_refl : T (le h h)
  h_refl = le_refl h (finite_number h q)

  pub tile_plus : tile_at w (add binary32 x h) ≤ tile_at w (add binary32 y h)
  tile_plus = tile_mono w (add binary32 x h) (add binary32 y h) (add_mono binary32 x y h h l h_refl (add_number binary32 x h (le_left x y l) q) (add_number binary32 y h (le_right x y l) q))

  pub tile_minus : tile_at w (sub binary32 x h) ≤ tile_at w (sub binary32 y h)
  tile_minus = tile_mono w (sub binary32 x h) (sub binary32 y h) (sub_mono binary32 x y h h l h_refl (sub_number binary32 x h (le_left x y l) q) (sub_number binary32 y h (le_right x y l) q))

-- the lower edge is on no higher tile than the upper one
pub edges : (w : ℕ) (x h : Float) → Number x → T (le nought h) → T (finite h) → tile_at w (sub binary32 x h) ≤ tile_at w (add binary32 x h)
unfolding sub
edges w x h a z q =
    tile_mono w (add binary32 x (neg h)) (add binary32 x h)
    (add_mono binary32 x x (neg h) h (le_refl x a) (neg_le h z) (sub_number binary32 x h a q) (add_number binary32 x h a q))

-- ---- a box
-- both edges of a box, h to either side of x, are on the tiles from first to last
pub record Over (w : ℕ) (h x : Float) (first last : ℕ) : Type 0 where
  pub low : first ≤ tile_at w (sub binary32 x h)
  pub between : tile_at w (sub binary32 x h) ≤ tile_at w (add binary32 x h)
  pub high : tile_at w (add binary32 x h) ≤ last

-- where f is false of every tile that the box may be over, it is of its corners
pub no_corner : (f : Tile → Bool) (s : Sides) (ts : List ℕ) (p box : vec2) (left right top bottom : ℕ) → Over s.width (vmul box half).x p.x left right → Over s.height (vmul box half).y p.y top bottom
    → ((c r : ℕ) → left ≤ c → c ≤ right → top ≤ r → r ≤ bottom → f (tile_in s ts c r) ≡ false) → any_corner f s ts p box ≡ false
unfolding corner_tiles
no_corner f s ts p box left right top bottom x y o =
    let l = le_trans x.between x.high in
    let r = le_trans x.low x.between in
    let t = le_trans y.between y.high in
    let b = le_trans y.low y.between in
    box_tiles f s ts p box ∙ four (o _ _ r x.high b y.high) (o _ _ x.low l y.low t) (o _ _ r x.high y.low t) (o _ _ x.low l b y.high)
  where
    four : {a b c d : Bool} → a ≡ false → b ≡ false → c ≡ false → d ≡ false → (a || b || c || d) ≡ false
    four p q r t = simp (p, q, r, t)
