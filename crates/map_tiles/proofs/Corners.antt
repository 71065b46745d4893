-- The corner formula: what is asked of a box are the tiles of the position plus or minus half the box in each coordinate. Assumes nothing.
use mathlib.Core.Path.{◌≡◌, refl, ap}
use mathlib.Core.Bool.{Bool, true, false, ◌||◌}
use mathlib.Core.List.{List}
use Prim.Native.Nat.{ℕ}
use lib.Ieee.{Float, nan, inf, fin, binary32, add, sub, mul, neg, of_bits}
use Rattle.num_vec2.specs.declared.vec2.{vec2}
use Rattle.num_vec2.specs.Vec2.{vnew, vadd, vsub, vmul}
use Rattle.map_corners.specs.Tile.{c14, tile_at}
use Rattle.map_tiles.specs.declared.point.Tile.{Tile}
use Rattle.map_tiles.specs.declared.tiles.Sides.{Sides}
use Rattle.map_tiles.specs.Map.{check_point}
use Rattle.map_tiles.specs.Box.{half, any_corner, character_box, corner_tiles}

neg-neg : (y : Float) → neg (neg y) ≡ y
unfolding neg
neg-neg nan = refl
neg-neg (inf true) = refl
neg-neg (inf false) = refl
neg-neg (fin true m e) = refl
neg-neg (fin false m e) = refl

minus_minus : (x y : Float) → sub binary32 x (neg y) ≡ add binary32 x y
unfolding sub
minus_minus x y = ap (add binary32 x) (neg-neg y)

-- the four corners at (x ± dx, y ± dy)
abbrev pub corners : (Tile → Bool) → Sides → List ℕ → Float → Float → Float → Float → Bool
corners f s ts x y dx dy =
    f (check_point s ts (vnew (add binary32 x dx) (add binary32 y dy)))
    || f (check_point s ts (vnew (sub binary32 x dx) (sub binary32 y dy)))
    || f (check_point s ts (vnew (add binary32 x dx) (sub binary32 y dy)))
    || f (check_point s ts (vnew (sub binary32 x dx) (add binary32 y dy)))

module _ (f : Tile → Bool) (s : Sides) (ts : List ℕ) where
  box_corners : (p box : vec2) → any_corner f s ts p box ≡ corners f s ts p.x p.y (vmul box half).x (vmul box half).y
  unfolding vadd vsub sub
  box_corners p box =
      let d = vmul box half in
      let at : Float → Float → Bool = λ x y. f (check_point s ts (vnew x y)) in
      ap (λ (y : Float). at (add binary32 p.x d.x) (add binary32 p.y d.y) || at (sub binary32 p.x d.x) (sub binary32 p.y d.y) || at (add binary32 p.x d.x) (sub binary32 p.y d.y) || at (sub binary32 p.x d.x) y) (minus_minus p.y d.y)

  -- by the columns and rows that they are in
  pub box_tiles : (p box : vec2) → any_corner f s ts p box ≡ corner_tiles f s ts (tile_at s.width (sub binary32 p.x (vmul box half).x)) (tile_at s.width (add binary32 p.x (vmul box half).x)) (tile_at s.height (sub binary32 p.y (vmul box half).y)) (tile_at s.height (add binary32 p.y (vmul box half).y))
  unfolding check_point corner_tiles
  box_tiles p box = box_corners p box

  -- a character's corners are at ± 14
  pub character_corners : (p : vec2) → any_corner f s ts p character_box ≡ corners f s ts p.x p.y c14 c14
  unfolding vmul mul of_bits
  character_corners p = box_corners p character_box

  pub character_tiles : (p : vec2) → any_corner f s ts p character_box ≡ corner_tiles f s ts (tile_at s.width (sub binary32 p.x c14)) (tile_at s.width (add binary32 p.x c14)) (tile_at s.height (sub binary32 p.y c14)) (tile_at s.height (add binary32 p.y c14))
  unfolding check_point corner_tiles
  character_tiles p = character_corners p
