-- Quantizing leaves the tiles of a character's corners: it is clear, and on no deadly tile, exactly where it was before. Assumes nothing.
use mathlib.Core.Bool.{Bool}
use mathlib.Core.Path.{◌≡◌, sym, ◌∙◌}
use mathlib.Core.List.{List}
use Prim.Native.Nat.{ℕ}
use lib.Dec.{T}
use lib.Ieee.{binary32, fits}
use Rattle.num_convert.specs.Convert.{quantize}
use Rattle.num_vec2.specs.declared.vec2.{vec2}
use Rattle.num_vec2.specs.Vec2.{vnew}
use Rattle.map_corners.specs.Tile.{c14}
use Rattle.map_corners.proofs.Quantized.{quantized_plus, quantized_minus}
use Rattle.map_tiles.specs.declared.point.Tile.{Tile}
use Rattle.map_tiles.specs.declared.tiles.Sides.{Sides}
use Rattle.map_tiles.specs.Map.{is_map, check_point, solid, deadly}
use Rattle.map_tiles.proofs.Maps.{is_map_lem}
use Rattle.map_tiles.specs.Box.{any_corner, check_box, character_box, on_deadly, vquantize}
use Rattle.map_tiles.proofs.Corners.{corners, character_corners}

module _ (s : Sides) (ts : List ℕ) (p : vec2) (m : T (is_map s ts)) (fx : T (fits binary32 p.x)) (fy : T (fits binary32 p.y)) where
  quantized_corners : (f : Tile → Bool) → any_corner f s ts (vquantize p) character_box ≡ any_corner f s ts p character_box
  unfolding vquantize check_point
  quantized_corners f =
      let g = is_map_lem s ts m in
      let same : corners f s ts (quantize p.x) (quantize p.y) c14 c14 ≡ corners f s ts p.x p.y c14 c14 =
      simp (← quantized_plus s.width p.x g.narrow fx, ← quantized_minus s.width p.x g.narrow fx, ← quantized_plus s.height p.y g.low fy, ← quantized_minus s.height p.y g.low fy) in
      character_corners f s ts (vnew (quantize p.x) (quantize p.y)) ∙ same ∙ sym (character_corners f s ts p)

  pub quantized_clear : check_box s ts (vquantize p) character_box ≡ check_box s ts p character_box
  unfolding check_box
  quantized_clear = quantized_corners solid

  pub quantized_deadly : on_deadly s ts (vquantize p) ≡ on_deadly s ts p
  unfolding on_deadly
  quantized_deadly = quantized_corners deadly
