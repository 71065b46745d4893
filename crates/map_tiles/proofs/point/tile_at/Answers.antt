use mathlib.Core.Path.{◌≡◌, refl, sym, ap, ◌∙◌}
use Prim.Native.Nat.{ℕ, ◌-◌, ◌/◌, ◌≤◌, ◌<◌, min}
use native.Mathlib.Omega.{arith}
use lib.IntN.{ℤ, pos, negsuc}
use mir.Syntax.{w32}
use mir.Facts.{to_z-of_z}
use lib.Ieee.{Float}
use Rattle.num_convert.specs.Whole.{round_to_i32}
use Rattle.map_corners.specs.Tile.{tile_of, tile_at}
use Rattle.map_tiles.specs.Map.{count}
use borrow.Author.Rules.{rules}
use Rattle.map_tiles.proofs.point.tile_at.Goals as goal

tile_count : (w : ℕ) (z : ℤ) → tile_of w z ≡ min (count z / 32) (w - 1)
unfolding tile_of
tile_count w (pos n) = refl
tile_count w (negsuc n) = omega arith

inside : (w : ℕ) (x : Float) (n : ℕ) → n ≡ count (round_to_i32 x) → n / 32 < w → n / 32 ≡ tile_at w x
unfolding tile_at
inside w x n e h = sym (tile_count w (round_to_i32 x) ∙ ap (λ (k : ℕ). min (k / 32) (w - 1)) (sym e) ∙ keep (n / 32) w h)
  where
    keep : (t w : ℕ) → t < w → min t (w - 1) ≡ t
    keep t w h = omega arith

outside : (w : ℕ) (x : Float) (n : ℕ) → n ≡ count (round_to_i32 x) → w ≤ n / 32 → w - 1 ≡ tile_at w x
unfolding tile_at
outside w x n e h = sym (tile_count w (round_to_i32 x) ∙ ap (λ (k : ℕ). min (k / 32) (w - 1)) (sym e) ∙ cut (n / 32) w h)
  where
    cut : (t w : ℕ) → w ≤ t → min t (w - 1) ≡ w - 1
    cut t w h = omega arith

pub returns-then-t-side : goal.returns-then-t-side
returns-then-t-side c = (inside _ _ _ (c.before.count-t.ensures.0 ∙ ap count (to_z-of_z {w = w32} (search rules) ∙ c.before.before.round_to_i32.ensures)) c.if-t-side.true, c.if-t-side.true)

pub returns : goal.returns
returns c = (outside _ _ _ (c.before.count-t.ensures.0 ∙ ap count (to_z-of_z {w = w32} (search rules) ∙ c.before.before.round_to_i32.ensures)) c.if-t-side.false, omega arith)
