-- Quantizing a coordinate leaves the tiles of the box's corners as they were. Assumes nothing.
use mathlib.Core.Path.{◌≡◌, subst}
use mathlib.Core.Logic.Iff
use mathlib.Core.Logic.{◌↔◌}
use mathlib.Core.Bool.{Bool, true, false}
use Prim.Native.Nat.{ℕ, ◌+◌, ◌*◌, ◌≤◌}
use lib.Dec.{T}
use lib.IntN.{ℤ}
use lib.Ieee.{Float, binary32, of_bits, neg, add, sub, fits}
use lib.Ieee.Fits.{of_int-fits}
use Rattle.num_convert.specs.Whole.{round_to_i32}
use Rattle.num_convert.specs.Convert.{i32_to_f32, quantize}
use Rattle.num_convert.proofs.Again.{round_again}
use Rattle.map_corners.specs.Tile.{c14, tile_at}
use Rattle.map_corners.proofs.Reach.{Past, tile_same}
use Rattle.map_corners.proofs.Corner.{fourteen, back, add_past}

quantized : (t : Bool) (w : ℕ) (x : Float) → w ≤ 1024 → T (fits binary32 x) → tile_at w (add binary32 x (fourteen t)) ≡ tile_at w (add binary32 (quantize x) (fourteen t))
unfolding tile_at quantize i32_to_f32
quantized t w x W f =
    let y = quantize x in
    tile_same w (round_to_i32 (add binary32 x (fourteen t))) (round_to_i32 (add binary32 y (fourteen t))) W
    (λ k h. Iff.trans (add_past k h t x f)
    (subst (λ (z : ℤ). Past (back t k) z ↔ Past (32 * k + 31) (round_to_i32 (add binary32 y (fourteen t)))) (round_again x f) (Iff.symm (add_past k h t y (of_int-fits binary32 (round_to_i32 x))))))

pub quantized_plus : (w : ℕ) (x : Float) → w ≤ 1024 → T (fits binary32 x) → tile_at w (add binary32 x c14) ≡ tile_at w (add binary32 (quantize x) c14)
unfolding of_bits
quantized_plus = quantized false

pub quantized_minus : (w : ℕ) (x : Float) → w ≤ 1024 → T (fits binary32 x) → tile_at w (sub binary32 x c14) ≡ tile_at w (sub binary32 (quantize x) c14)
unfolding sub neg of_bits
quantized_minus = quantized true
