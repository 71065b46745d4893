-- Proved cases 2 to 6 of document 01, as far as they speak of floats alone, as one joint fact, by computation. Assumes nothing.
use Rattle.std.proofs.Common.{◌≡◌, pos, negsuc, refl}
use lib.Ieee.{nan, binary32, of_bits, mul, div, of_int}
use Rattle.num_convert.specs.Whole.{whole_of, round_to_i32}
use Rattle.num_convert.specs.Convert.{i32_to_f32, quantize, to256ths, from256ths, quantize256ths}

pub record Cases : Type 0 where
  -- (2) -0.5, 2.5 and 0x3EFFFFFF
  pub minus_half : round_to_i32 (of_bits binary32 0xbf00_0000) ≡ negsuc 0
  pub two_and_a_half : round_to_i32 (of_bits binary32 0x4020_0000) ≡ pos 3
  pub below_half : round_to_i32 (of_bits binary32 0x3eff_ffff) ≡ pos 0
  -- (3) 2,147,483,647 as f32 returns as itself
  pub top : round_to_i32 (i32_to_f32 (pos 2147483647)) ≡ pos 2147483647
  -- (4) velocities ±1/512 quantize to ±1/256
  pub tie_up : quantize256ths (of_bits binary32 0x3b00_0000) ≡ of_bits binary32 0x3b80_0000
  pub tie_down : quantize256ths (of_bits binary32 0xbb00_0000) ≡ of_bits binary32 0xbb80_0000
  -- (5) position 17.5 quantizes to 18
  pub seventeen_and_a_half : quantize (of_bits binary32 0x418c_0000) ≡ of_bits binary32 0x4190_0000
  -- (6) position not-a-number quantizes to 0
  pub not_a_number : quantize nan ≡ of_bits binary32 0

pub cases : Cases
unfolding of_bits whole_of i32_to_f32 of_int quantize quantize256ths to256ths from256ths mul div
cases = record { minus_half = refl; two_and_a_half = refl; below_half = refl; top = refl; tie_up = refl; tie_down = refl; seventeen_and_a_half = refl; not_a_number = refl }
