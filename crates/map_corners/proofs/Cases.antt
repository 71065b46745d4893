-- Proved case 5 of document 01: the right corner of position 17.5 is in column 1 of two, before quantizing and after. Assumes nothing.
use mathlib.Core.Path.{◌≡◌, refl}
use lib.Ieee.{binary32, of_bits, of_int, add}
use Rattle.num_convert.specs.Whole.{whole_of}
use Rattle.num_convert.specs.Convert.{i32_to_f32, quantize}
use Rattle.map_corners.specs.Tile.{c14, tile_of, tile_at}

pub record Cases : Type 0 where
  pub before : tile_at 2 (add binary32 (of_bits binary32 0x418c_0000) c14) ≡ 1
  pub after : tile_at 2 (add binary32 (quantize (of_bits binary32 0x418c_0000)) c14) ≡ 1

pub cases : Cases
unfolding tile_at tile_of whole_of quantize i32_to_f32 of_int of_bits add
cases = record { before = refl; after = refl }
